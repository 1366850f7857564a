-- What the sets that the policy keeps stand for.
use Rattle.std.specs.Prelude.{ℕ, Bool}
use Rattle.policy.specs.declared.record.Record.{Record}
use Rattle.policy.specs.Leaves.{Leaf}
use Rattle.associations.specs.Associations.{row_at}
use Rattle.triples.specs.declared.triples.Triples.{Triples}
use Rattle.triples.specs.RowSets.{has_at}
use Rattle.triples.specs.Triples.{Chart, Candidates, row_assigned, triples_leaf}

abbrev pub kept_chart : Triples → Chart
kept_chart t = record {
  assigned = λ row user procedure. row_assigned (row_at t.rows row) user procedure;
  lists = λ row item. has_at t.listing item.index row;
}

abbrev pub kept_candidates : Triples → Candidates
kept_candidates t = has_at t.candidates

-- those of the record's seat
abbrev pub candidates_of : Triples → Record → ℕ → Bool
candidates_of t q = kept_candidates t q.subject.seat.index

-- the policy as it stands
abbrev pub kept_leaf : Triples → Leaf
kept_leaf t = triples_leaf (kept_chart t) (kept_candidates t)
