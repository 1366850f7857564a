use Rattle.std.proofs.Common.{◌≡◌, ℕ, ◌<◌, List, [], ◌∷◌, length, set, ap, rules, arith}
use mathlib.Core.Path.{fun_ext}
use Rattle.std.proofs.lemmas.Grind.{common_steps}
use Rattle.policy.specs.declared.record.Record.{Record}
use Rattle.triples.specs.declared.row_set.RowSet.{RowSet}
use Rattle.triples.specs.RowSets.{has, has_at}
use Rattle.triples.specs.Triples.{Chart, candidate_after, narrowed, triples_leaf}
use Rattle.triples.specs.Kept.{kept_chart}
use Rattle.triples.proofs.triples.TriplesPolicy.note.Goals as goal

-- to set the candidates of the seat is to narrow those of every seat
set_narrows : (chart : Chart) (noted : Record) (sets : List RowSet) (after : RowSet) → noted.subject.seat.index < length sets
    → ((k : ℕ) → has after k ≡ candidate_after chart noted k (has_at sets noted.subject.seat.index k))
    → has_at (set sets noted.subject.seat.index after) ≡ narrowed chart noted (has_at sets)
set_narrows chart noted sets after inside means = fun_ext (λ seat. fun_ext (λ row. grind (arith, common_steps)))

pub returns : goal.returns
returns c =
    let chart = kept_chart c.args.self.now in
    rw c.from.ensures (ap (λ candidates. triples_leaf chart candidates ∷ []) (set_narrows chart c.args.access.now c.args.self.now.candidates _ (search rules) c.candidates_after.ensures))
