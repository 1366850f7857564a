-- What the label policy says, over any label order.
use Rattle.std.specs.Prelude.{ℕ, Bool, cond, ◌&&◌, List, Some, None, Option, ◌==◌}
use Rattle.labels.specs.Orders.{Order}
use Rattle.policy.specs.Words.{yes_or_no}
use Rattle.policy.specs.declared.words.Request.{Request}
use Rattle.policy.specs.declared.words.Kind.{Kind}
use Rattle.policy.specs.declared.words.Verdict.{Verdict}
use Rattle.policy.specs.declared.words.Verdict.TheVariants.{Yes, Undefined}
use Rattle.label_policies.specs.declared.label_table.Condition.{Condition}
use Rattle.label_policies.specs.declared.label_table.Condition.TheVariants.{Free, Equal, Dominates}
use Rattle.label_policies.specs.declared.label_table.Row.{Row}
use Rattle.policy.specs.Leaves.{Leaf, steady}
use Rattle.label_policies.specs.LabelTable.{rows, condition_in}

-- two lawful labels are compared; there is no verdict where either is unlawful
abbrev pub compared : Order → ℕ → ℕ → Bool → Verdict
compared order process object holds = cond (order.lawful process && order.lawful object) (yes_or_no holds) Undefined

-- what a row says of the process's label and the object's, and where there is no row
abbrev pub ruled : Order → Option Condition → ℕ → ℕ → Verdict
ruled order None process object = Undefined
ruled order (Some Free) process object = Yes
ruled order (Some Equal) process object = compared order process object (process == object)
ruled order (Some Dominates) process object = compared order process object (order.dominates process object)

-- what a table of rows says of a request on a kind of object
abbrev pub label_verdict : List Row → Order → Request → Kind → ℕ → ℕ → Verdict
label_verdict table order request kind process object = ruled order (condition_in table request kind) process object

-- the number of its leaf
abbrev pub label_number : ℕ
label_number = 1

-- the label policy over an order: it goes by the request, the kind and the two labels, and by nothing that was noted
abbrev pub label_leaf : Order → Leaf
label_leaf order = steady label_number (λ q. label_verdict rows order q.request q.target.kind q.subject.label q.target.label)
