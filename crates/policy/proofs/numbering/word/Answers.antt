use Rattle.std.proofs.Common.{refl, rules}
use Rattle.policy.proofs.Numbers.{word_inside, word_outside}
use Rattle.policy.proofs.numbering.word.Goals as goal

pub returns-then-is_among : goal.returns-then-is_among
returns-then-is_among g c =
    word_inside _ c.args.words.now c.args.first c.args.number _ _ (search rules) refl (search rules) c.index-words-number.is

pub returns-else-is_among : goal.returns-else-is_among
returns-else-is_among g c = word_outside _ c.args.words.now c.args.first c.args.number (search rules)
