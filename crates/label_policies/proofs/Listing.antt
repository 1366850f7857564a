-- A loop that adds what each element of a list stands for; and what the printed list has, which the checker computes.
use Rattle.std.proofs.Common.{◌≡◌, ℕ, ◌+◌, ◌<◌, ◌≤◌, List, ◌++◌, length, get_or, drop, sym, refl, ap, ◌∙◌, append_assoc, append-nil, add-one, drop-cons}
use mathlib.Core.List.{flat_map}
use Rattle.std.proofs.lemmas.List.{drop_all}
use Rattle.label_policies.specs.declared.label_table.Row.{Row}
use Rattle.label_policies.specs.LabelTable.{rows, condition_in}
use Rattle.label_policies.specs.Listing.{in_order, Listed}

-- with what is ahead, what was added stays the whole
pub turn : {A B : Type 0} (f : A → List B) (xs : List A) (i : ℕ) (d : A) (done after whole : List B)
    → i < length xs → done ++ flat_map f (drop i xs) ≡ whole → after ≡ done ++ f (get_or xs i d) → after ++ flat_map f (drop (i + 1) xs) ≡ whole
unfolding flat_map
turn f xs i d done after whole lt inv added =
    ap (λ l. l ++ flat_map f (drop (i + 1) xs)) added
    ∙ append_assoc done (f (get_or xs i d)) (flat_map f (drop (i + 1) xs))
    ∙ ap (λ l. done ++ l) (ap (λ j. f (get_or xs i d) ++ flat_map f (drop j xs)) (add-one i) ∙ sym (ap (flat_map f) (drop-cons xs i d lt)))
    ∙ inv

-- and at the end nothing is ahead
pub ended : {A B : Type 0} (f : A → List B) (xs : List A) (i : ℕ) (done whole : List B)
    → length xs ≤ i → done ++ flat_map f (drop i xs) ≡ whole → done ≡ whole
unfolding flat_map
ended f xs i done whole le inv = sym (ap (λ l. done ++ flat_map f l) (drop_all i xs le) ∙ append-nil done) ∙ inv

-- its count and that no two rows share a place are computed
pub listed : (list : List Row) → list ≡ in_order rows → Listed list
unfolding flat_map condition_in
listed list is = record { rows_in_order = is; access_count = refl; count = ap length is; apart = refl }
