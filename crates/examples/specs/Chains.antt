-- Three chains of two items each, as they are added: {1, 2}, {1, 3} and {2, 3}, for user 1 and procedure 10.
use Rattle.std.specs.Prelude.{Result}
use Rattle.policy.specs.declared.refusal.Refusal.{Refusal}
use Rattle.policy.specs.Refusals.{go_on}
use Rattle.associations.specs.declared.associations.Associations.{Associations}
use Rattle.associations.specs.Associations.{none_set, added_cell, added_row}

abbrev pub three_chains : Result Associations Refusal
three_chains =
    go_on (added_cell none_set 2 2 0) (λ a.
    go_on (added_cell a 1 1 2) (λ b.
    go_on (added_cell b 4 3 0) (λ c.
    go_on (added_cell c 3 1 4) (λ d.
    go_on (added_cell d 6 3 0) (λ e.
    go_on (added_cell e 5 2 6) (λ f.
    go_on (added_row f 1 1 10 1) (λ g.
    go_on (added_row g 2 1 10 3) (λ h.
    added_row h 3 1 10 5))))))))
