-- What each call would do: its checks in order, of the numbers first and then of the tables, and then its plan.
use Rattle.std.specs.Prelude.{ℕ, Bool, cond, not, replicate, is_some, [], ◌∷◌, Some, None, Ok, Result, ◌==◌}
use Rattle.std.specs.Option.{ok_or}
use Rattle.policy.specs.declared.place.Place.{Place}
use Rattle.policy.specs.declared.refusal.Refusal.{Refusal}
use Rattle.policy.specs.declared.refusal.Refusal.TheVariants.{SeatTaken, NoSuchUser, ObjectInUse, NoSuchHome, Held, HomeOfAnother, NotHeldSo, HeldSoAlready, WrongKind}
use Rattle.policy.specs.declared.words.Kind.{Kind}
use Rattle.policy.specs.declared.words.ProgramType.{ProgramType}
use Rattle.policy.specs.declared.words.ProgramType.TheVariants.{Nil}
use Rattle.policy.specs.declared.words.Request.{Request}
use Rattle.policy.specs.declared.words.Request.TheVariants as ask
use Rattle.policy.specs.declared.words.Category.TheVariants.{General}
use Rattle.policy.specs.declared.words.DataType.TheVariants as data_type
use Rattle.policy.specs.Words.{program_number}
use Rattle.policy.specs.Places.{placed, word_numbered, number_of}
use Rattle.policy.specs.Refusals.{go_on, provided}
use Rattle.tables.specs.declared.change.Change.TheVariants.{Nothing, Seat, Become, Hold, LetGo, Length, Put}
use Rattle.tables.specs.declared.tables.Mode.{Mode}
use Rattle.tables.specs.declared.tables.Mode.TheVariants.{Read, Write, ReadWrite}
use Rattle.tables.specs.declared.tables.User.{User}
use Rattle.tables.specs.declared.tables.Process.{Process}
use Rattle.tables.specs.declared.tables.Object.{Object}
use Rattle.tables.specs.declared.tables.Tables.{Tables}
use Rattle.tables.specs.Tables.{modes, no_modes, object_kinds, user_at, process_at, object_at, modes_of, has_mode}
use Rattle.plans.specs.declared.plan.Plan.{Plan}
use Rattle.plans.specs.declared.call.Call.{Call}
use Rattle.plans.specs.declared.call.Call.TheVariants as call
use Rattle.plans.specs.Checks.{a_length, flags, seated, used, is_directory, is_file, has_directory, reads, writes, length_of, some_of, holds, stands_in}
use Rattle.plans.specs.Records.{asking, acting, subject_of, target_of, bare_target, no_target, at_home, terminated, no_request, one_request}

-- ---- login: a user asks for a process with a label

-- a process that has just sat down: of no type, holding nothing
abbrev pub newcomer : Place 16 → (label : ℕ) → Process
newcomer owner label = record { owner = owner; label = label; runs = Nil; holds = replicate 64 no_modes }

-- the enter record has the user's approval for the process's label, and the label asked for the object's
abbrev pub login_plan : Place 32 → Place 16 → User → (label : ℕ) → Plan
login_plan seat owner user label = record {
  requests = one_request (asking ask.Enter (acting seat owner (Some user) user.approval Nil) (no_target label));
  ended = None;
  change = Seat seat (Some (newcomer owner label));
  answer = number_of seat;
}

-- ---- execute: the type NIL becomes that of the program, any other stays

abbrev pub type_after : ProgramType → ProgramType → ProgramType
type_after type program = cond (program_number type == program_number Nil) program type

-- ---- open: each mode has its request

abbrev pub opening : Mode → Request
opening Read = ask.ReadOpen
opening Write = ask.WriteOpen
opening ReadWrite = ask.ReadWriteOpen

-- ---- create: kind and home as asked, the label of the process, all else 0

abbrev pub created : Place 64 → Kind → (label : ℕ) → Object
created home kind label = record {
  kind = kind;
  home = Some home;
  label = label;
  category = General;
  program = Nil;
  content = data_type.Nil;
  length = 0;
}

module _ (t : Tables) where
  abbrev pub checked_login : (seat user label : ℕ) → Result Plan Refusal
  checked_login seat user label =
      go_on (placed 32 seat 1) (λ s.
      go_on (placed 16 user 2) (λ n.
      provided (not (is_some (process_at t s))) SeatTaken (
      go_on (ok_or (user_at t n) NoSuchUser) (λ u.
      Ok (login_plan s n u label)))))

  -- ---- fork: the child is a copy of its parent, with all that it holds

  abbrev pub fork_plan : Place 32 → Place 32 → Process → Plan
  fork_plan seat new p = record {
    requests = one_request (asking ask.Clone (subject_of t seat p) (no_target 0));
    ended = None;
    change = Seat new (Some p);
    answer = number_of new;
  }

  abbrev pub checked_fork : (seat new : ℕ) → Result Plan Refusal
  checked_fork seat new =
      go_on (placed 32 seat 1) (λ s.
      go_on (placed 32 new 2) (λ n.
      go_on (seated t s) (λ p.
      provided (not (is_some (process_at t n))) SeatTaken (
      Ok (fork_plan s n p)))))

  -- ---- end: nobody is asked, and the terminate record is noted

  abbrev pub end_plan : Place 32 → Process → Plan
  end_plan seat p = record {
    requests = no_request;
    ended = Some (terminated t seat p);
    change = Seat seat None;
    answer = 0;
  }

  abbrev pub checked_end : (seat : ℕ) → Result Plan Refusal
  checked_end seat =
      go_on (placed 32 seat 1) (λ s.
      go_on (seated t s) (λ p.
      Ok (end_plan s p)))

  -- ---- kill: the other process ends as if by itself; its label stands for the object's in the request

  abbrev pub kill_plan : Place 32 → Place 32 → Process → Process → Plan
  kill_plan seat other p q = record {
    requests = one_request (asking ask.SendSignal (subject_of t seat p) (no_target q.label));
    ended = Some (terminated t other q);
    change = Seat other None;
    answer = 0;
  }

  abbrev pub checked_kill : (seat other : ℕ) → Result Plan Refusal
  checked_kill seat other =
      go_on (placed 32 seat 1) (λ s.
      go_on (placed 32 other 2) (λ n.
      go_on (seated t s) (λ p.
      go_on (seated t n) (λ q.
      Ok (kill_plan s n p q)))))

  abbrev pub execute_plan : Place 32 → Place 64 → Process → Object → Plan
  execute_plan seat object p o =
      let who = subject_of t seat p in
      record {
        requests =
            at_home t ask.Search who o.home
            ∷ None
            ∷ Some (asking ask.Execute who (target_of t object))
            ∷ [];
        ended = None;
        change = Become seat (type_after p.runs o.program);
        answer = program_number (type_after p.runs o.program);
      }

  abbrev pub checked_execute : (seat object : ℕ) → Result Plan Refusal
  checked_execute seat object =
      go_on (placed 32 seat 1) (λ s.
      go_on (placed 64 object 2) (λ n.
      go_on (seated t s) (λ p.
      go_on (used t n) (λ o.
      provided (is_file o) WrongKind (
      Ok (execute_plan s n p o))))))

  -- a truncating open asks to delete the data and to open, both
  abbrev pub open_plan : Place 32 → Place 64 → Mode → Bool → Process → Object → Plan
  open_plan seat object mode truncate p o =
      let who = subject_of t seat p in
      let what = target_of t object in
      record {
        requests =
            at_home t ask.Search who o.home
            ∷ cond truncate (Some (asking ask.DeleteData who what)) None
            ∷ Some (asking (opening mode) who what)
            ∷ [];
        ended = None;
        change = Hold seat object mode truncate;
        answer = 0;
      }

  abbrev pub checked_open : (seat object mode truncate : ℕ) → Result Plan Refusal
  checked_open seat object mode truncate =
      go_on (placed 32 seat 1) (λ s.
      go_on (placed 64 object 2) (λ n.
      go_on (word_numbered modes 1 mode 3) (λ m.
      go_on (word_numbered flags 0 truncate 4) (λ cut.
      go_on (seated t s) (λ p.
      go_on (used t n) (λ o.
      provided (not (is_directory o)) WrongKind (
      provided (not (has_mode (modes_of p n) m)) HeldSoAlready (
      Ok (open_plan s n m cut p o)))))))))

  -- ---- close: nobody is asked

  abbrev pub close_plan : Place 32 → Place 64 → Mode → Plan
  close_plan seat object mode = record {
    requests = no_request;
    ended = None;
    change = LetGo seat object mode;
    answer = 0;
  }

  abbrev pub checked_close : (seat object mode : ℕ) → Result Plan Refusal
  checked_close seat object mode =
      go_on (placed 32 seat 1) (λ s.
      go_on (placed 64 object 2) (λ n.
      go_on (word_numbered modes 1 mode 3) (λ m.
      go_on (seated t s) (λ p.
      provided (has_mode (modes_of p n) m) NotHeldSo (
      Ok (close_plan s n m))))))

  -- ---- read and write: what is held may be read or written as it is held

  abbrev pub read_plan : Place 32 → Place 64 → Process → Plan
  read_plan seat object p = record {
    requests = one_request (asking ask.Read (subject_of t seat p) (target_of t object));
    ended = None;
    change = Nothing;
    answer = length_of (object_at t object);
  }

  abbrev pub checked_read : (seat object : ℕ) → Result Plan Refusal
  checked_read seat object =
      go_on (placed 32 seat 1) (λ s.
      go_on (placed 64 object 2) (λ n.
      go_on (seated t s) (λ p.
      provided (reads (modes_of p n)) NotHeldSo (
      Ok (read_plan s n p)))))

  abbrev pub write_plan : Place 32 → Place 64 → (length : ℕ) → Process → Plan
  write_plan seat object length p = record {
    requests = one_request (asking ask.Write (subject_of t seat p) (target_of t object));
    ended = None;
    change = Length object length;
    answer = length;
  }

  abbrev pub checked_write : (seat object length : ℕ) → Result Plan Refusal
  checked_write seat object length =
      go_on (placed 32 seat 1) (λ s.
      go_on (placed 64 object 2) (λ n.
      go_on (a_length length 3) (λ l.
      go_on (seated t s) (λ p.
      provided (writes (modes_of p n)) NotHeldSo (
      Ok (write_plan s n l p))))))

  -- the object stands in the request as it will be
  abbrev pub create_plan : Place 32 → Place 64 → Place 64 → Kind → Process → Plan
  create_plan seat object home kind p =
      let who = subject_of t seat p in
      record {
        requests =
            at_home t ask.Search who (Some home)
            ∷ at_home t ask.Write who (Some home)
            ∷ Some (asking ask.Create who (bare_target (Some object) kind p.label))
            ∷ [];
        ended = None;
        change = Put object (Some (created home kind p.label));
        answer = 0;
      }

  abbrev pub checked_create : (seat object home kind : ℕ) → Result Plan Refusal
  checked_create seat object home kind =
      go_on (placed 32 seat 1) (λ s.
      go_on (placed 64 object 2) (λ n.
      go_on (placed 64 home 3) (λ h.
      go_on (word_numbered object_kinds 1 kind 4) (λ k.
      go_on (seated t s) (λ p.
      provided (not (is_some (object_at t n))) ObjectInUse (
      provided (has_directory t.objects h) NoSuchHome (
      Ok (create_plan s n h k p))))))))

  -- ---- unlink: nobody may hold the object, and nothing may stand in it

  abbrev pub unlink_plan : Place 32 → Place 64 → Process → Object → Plan
  unlink_plan seat object p o =
      let who = subject_of t seat p in
      record {
        requests =
            at_home t ask.Search who o.home
            ∷ at_home t ask.Write who o.home
            ∷ Some (asking ask.Delete who (target_of t object))
            ∷ [];
        ended = None;
        change = Put object None;
        answer = 0;
      }

  abbrev pub checked_unlink : (seat object : ℕ) → Result Plan Refusal
  checked_unlink seat object =
      go_on (placed 32 seat 1) (λ s.
      go_on (placed 64 object 2) (λ n.
      go_on (seated t s) (λ p.
      go_on (used t n) (λ o.
      provided (not (some_of (holds n) t.processes)) Held (
      provided (not (some_of (stands_in n) t.objects)) HomeOfAnother (
      Ok (unlink_plan s n p o)))))))

  -- the plan of a call, or why it is refused before any policy is asked
  abbrev pub planned : Call → Result Plan Refusal
  planned (call.Login seat user label) = checked_login seat user label
  planned (call.Fork seat new) = checked_fork seat new
  planned (call.End seat) = checked_end seat
  planned (call.Kill seat other) = checked_kill seat other
  planned (call.Execute seat object) = checked_execute seat object
  planned (call.Open seat object mode truncate) = checked_open seat object mode truncate
  planned (call.Close seat object mode) = checked_close seat object mode
  planned (call.Read seat object) = checked_read seat object
  planned (call.Write seat object length) = checked_write seat object length
  planned (call.Create seat object home kind) = checked_create seat object home kind
  planned (call.Unlink seat object) = checked_unlink seat object
