-- What a record says, as tests that the rules of policies are written in.
use Rattle.std.specs.Prelude.{ℕ, Bool, false, ◌||◌, List, [], ◌∷◌, ◌==◌}
use Rattle.policy.specs.declared.record.Record.{Record}
use Rattle.policy.specs.declared.words.Request.{Request}
use Rattle.policy.specs.declared.words.Kind.{Kind}
use Rattle.policy.specs.declared.words.SystemRole.{SystemRole}
use Rattle.policy.specs.declared.words.IntegrityRole.{IntegrityRole}
use Rattle.policy.specs.declared.words.ProgramType.{ProgramType}
use Rattle.policy.specs.declared.words.Category.{Category}
use Rattle.policy.specs.declared.words.DataType.{DataType}
use Rattle.policy.specs.Words.{request_number, kind_number, role_number, integrity_number, program_number, category_number, content_number}

-- the request of this number is among these
abbrev pub is_one_of : ℕ → List Request → Bool
is_one_of n [] = false
is_one_of n (request ∷ more) = n == request_number request || is_one_of n more

module _ (q : Record) where
  -- the request is one of these
  abbrev pub asks : List Request → Bool
  asks requests = is_one_of (request_number q.request) requests

  abbrev pub role_is : SystemRole → Bool
  role_is role = role_number q.subject.role == role_number role

  abbrev pub integrity_is : IntegrityRole → Bool
  integrity_is role = integrity_number q.subject.integrity == integrity_number role

  -- the process is of this type
  abbrev pub runs : ProgramType → Bool
  runs type = program_number q.subject.runs == program_number type

  abbrev pub kind_is : Kind → Bool
  kind_is kind = kind_number q.target.kind == kind_number kind

  abbrev pub category_is : Category → Bool
  category_is category = category_number q.target.category == category_number category

  abbrev pub program_is : ProgramType → Bool
  program_is type = program_number q.target.program == program_number type

  abbrev pub content_is : DataType → Bool
  content_is type = content_number q.target.content == content_number type
