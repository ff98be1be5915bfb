-- The text of a value is read as that value.
use Rattle.std.proofs.Common.{◌≡◌, ◌≤◌, ℕ, List, [], ◌∷◌, ◌++◌, Some, option_and_then, sym, ap, subst, ◌∙◌, append-nil}
use Rattle.json.specs.Token.{Token}
use Rattle.json.specs.Lex.{tokens}
use Rattle.json.specs.Json as json
use Rattle.json.specs.Tree.{json_tokens}
use Rattle.json.specs.Print.{ArePrintable}
use Rattle.json.proofs.Printed.Tokens.{tokens-print}
use Rattle.json.proofs.Printed.Trees.{value-json_tokens, ArePrintable-json_tokens}
use Rattle.serde_json.specs.Data.{Data}
use Rattle.serde_json.specs.Read.{of_json, max_depth, read}
use Rattle.serde_json.specs.Written.{outline, compact_text}
use Rattle.serde_json.proofs.Texts.{print-outline}
use Rattle.vx_json_trip.specs.Trips.{IsReadable, HasOrderedNames, settled}
use Rattle.vx_json_trip.proofs.Outlines.{depth-outline, HasNumbers-outline, of_json-outline}
use Rattle.vx_json_trip.proofs.Order.{settled-same}
use Rattle.vx_json_trip.proofs.Lines.{tokens-line}

printable : (d : Data) → IsReadable d → ArePrintable (json_tokens (outline d))
printable d is = ArePrintable-json_tokens (outline d) (HasNumbers-outline d is.whole)

-- a text with those tokens
from-tokens : (d : Data) (text : List ℕ) → IsReadable d → tokens text ≡ json_tokens (outline d) → read text ≡ Some (settled d)
from-tokens d text is same =
    let shallow = subst (λ (n : ℕ). n ≤ max_depth) (sym (depth-outline d)) is.shallow in
    ap (λ (ts : List Token). option_and_then of_json (option_and_then (λ p. json.if_last p.0 p.1) (json.value max_depth ts)))
    (same ∙ sym (append-nil (json_tokens (outline d))))
    ∙ ap (λ o. option_and_then of_json (option_and_then (λ p. json.if_last p.0 p.1) o)) (value-json_tokens (outline d) max_depth [] shallow)
    ∙ of_json-outline d is.whole

pub text-read : (d : Data) → IsReadable d → read (compact_text d) ≡ Some (settled d)
text-read d is =
    from-tokens d (compact_text d) is (ap tokens (sym (print-outline d)) ∙ tokens-print (json_tokens (outline d)) (printable d is))

pub text-read_back : (d : Data) → IsReadable d → HasOrderedNames d → read (compact_text d) ≡ Some d
text-read_back d is ordered = text-read d is ∙ ap Some (settled-same d ordered)

pub line-read_back : (d : Data) → IsReadable d → HasOrderedNames d → read (compact_text d ++ 10 ∷ []) ≡ Some d
line-read_back d is ordered =
    let ts = json_tokens (outline d) in
    from-tokens d (compact_text d ++ 10 ∷ []) is
    (ap (λ (text : List ℕ). tokens (text ++ 10 ∷ [])) (sym (print-outline d)) ∙ tokens-line ts (printable d is) ∙ tokens-print ts (printable d is))
    ∙ ap Some (settled-same d ordered)
