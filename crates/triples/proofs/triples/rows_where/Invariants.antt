use Rattle.std.proofs.Common.{◌≡◌, ℕ, ◌<◌, ◌≤◌, false}
use Rattle.std.specs.Option.{MatchOption}
use Rattle.associations.specs.Associations.{row_at}
use Rattle.triples.specs.RowSets.{has}
use Rattle.triples.proofs.triples.rows_where.Given as goal

-- the rows below the index that pass are in the set, and no other
abbrev pub invariant-loop-index : goal.invariant-loop-index
invariant-loop-index g l =
    ((k : ℕ) → k < l.index → MatchOption (row_at l.rows k) (has l.set k ≡ false) (λ row. goal.F-post g l.passes row (has l.set k)))
    × ((k : ℕ) → l.index ≤ k → has l.set k ≡ false)
