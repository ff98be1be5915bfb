use Rattle.std.proofs.Common.{◌≡◌, ℕ, List, Option, None, Some, refl, rules}
use Rattle.uuid.specs.Text.{parsed}
use Rattle.vx_words.specs.Devices.{device_of}
use Rattle.vx_words.proofs.moment.device_of.Goals as goal

none_named : (word : List ℕ) (found : Option (List ℕ)) → parsed word ≡ found → ((u : List ℕ) → found ≡ Some u → ⊥) → None ≡ device_of word
none_named word None is none = rw is refl
none_named word (Some u) is none = absurd (none u refl)

pub returns-in-Err-clause-named : goal.returns-in-Err-clause-named
returns-in-Err-clause-named c = none_named c.args.word.now (parsed c.args.word.now) refl (λ u is. let ok = c.parse_str.ensures.ok.1 (u, is) in search rules)
