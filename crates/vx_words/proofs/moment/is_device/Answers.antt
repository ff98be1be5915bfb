use Rattle.std.proofs.Common.{◌≡◌, ℕ, List, Option, None, Some, false, refl, rules}
use Rattle.std.specs.Prelude.{is_some}
use Rattle.uuid.specs.Text.{parsed}
use Rattle.vx_words.specs.Devices.{device_of}
use Rattle.vx_words.proofs.moment.is_device.Goals as goal

not_named : (word : List ℕ) (found : Option (List ℕ)) → parsed word ≡ found → ((u : List ℕ) → found ≡ Some u → ⊥) → false ≡ is_some (device_of word)
not_named word None is none = rw is refl
not_named word (Some u) is none = absurd (none u refl)

pub returns-in-Err : goal.returns-in-Err
returns-in-Err c = not_named c.args.word.now (parsed c.args.word.now) refl (λ u is. let ok = c.parse_str.ensures.ok.1 (u, is) in search rules)
