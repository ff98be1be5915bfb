use Rattle.std.proofs.Common.{◌≡◌, ◌∙◌, sym, ap, Err, Ok, map, Some}
use Rattle.std.proofs.lemmas.Result.{err_from_is_err_and}
use Rattle.vx_code.specs.declared.code.PageCode.{PageCode}
use Rattle.vx_code.specs.declared.code.CodeFault.TheVariants.{BadVersion}
use Rattle.vx_code.specs.Bits.{bits_of_number}
use Rattle.vx_code.specs.Code.{shown_by, code_of_bits, version_of, code_shown_by}
use Rattle.vx_code.proofs.Numbers.{length-bits_of_number}
use Rattle.vx_code.proofs.Fields.{IsInRange-code_of_bits}
use Rattle.vx_code.proofs.Readings.{code_shown_by-good, code_shown_by-version, code_shown_by-bad, code_shown_by-boxes_of, code_shown_by-BadPair, code_shown_by-other, Shows-code_of_bits}
use Rattle.vx_code.proofs.reading.read_boxes.Goals as goal

-- the fault of the pair that is no bit
bad : (c : goal.After-from_residual) → c.from_residual.result ≡ code_shown_by c.args.paper c.args.counts.now
bad c =
    let p = err_from_is_err_and c.from_residual.result c.from_residual.ensures.1 in
    rw (p.1, p.2) (sym (code_shown_by-bad c.args.paper c.args.counts.now _ c.in_err-read_number.ensures))

pub returns-in_err-read_number-clause-exact : goal.returns-in_err-read_number-clause-exact
returns-in_err-read_number-clause-exact c = bad c

pub returns-in_err-read_number-clause-given_back :
    goal.returns-in_err-read_number-clause-given_back
returns-in_err-read_number-clause-given_back c =
    λ code fits one shows. bad c ∙ code_shown_by-boxes_of c.args.paper c.args.counts.now code c.told-counts fits one shows

-- another version
other : (c : goal.Then-code-version_of) → Err (BadVersion c.code_of_number-code.result.version) ≡ code_shown_by c.args.paper c.args.counts.now
other c =
    let bits = bits_of_number 42 c.in_ok-read_number.field-0 in
    let shown : shown_by c.args.counts.now ≡ map Some bits = c.in_ok-read_number.ensures.1 in
    let code : c.code_of_number-code.result ≡ code_of_bits bits = c.code_of_number-code.ensures in
    rw code (sym (code_shown_by-version c.args.paper c.args.counts.now bits shown (λ e. c.if-code-version_of.true (ap (λ (x : PageCode). x.version) code ∙ e ∙ sym c.version_of.ensures.exact))))

pub returns-then-code-version_of-clause-exact : goal.returns-then-code-version_of-clause-exact
returns-then-code-version_of-clause-exact c = other c

pub returns-then-code-version_of-clause-given_back : goal.returns-then-code-version_of-clause-given_back
returns-then-code-version_of-clause-given_back c =
    λ code fits one shows. other c ∙ code_shown_by-boxes_of c.args.paper c.args.counts.now code c.told-counts fits one shows

-- the code that is shown
good : (c : goal.Else-code-version_of) → Ok c.code_of_number-code.result ≡ code_shown_by c.args.paper c.args.counts.now
good c =
    let bits = bits_of_number 42 c.in_ok-read_number.field-0 in
    let shown : shown_by c.args.counts.now ≡ map Some bits = c.in_ok-read_number.ensures.1 in
    let code : c.code_of_number-code.result ≡ code_of_bits bits = c.code_of_number-code.ensures in
    let one : (code_of_bits bits).version ≡ version_of c.args.paper = sym (ap (λ (x : PageCode). x.version) code) ∙ c.if-code-version_of.false ∙ c.version_of.ensures.exact in
    rw code (sym (code_shown_by-good c.args.paper c.args.counts.now bits shown one))

pub returns-clause-exact : goal.returns-clause-exact
returns-clause-exact c = good c

pub returns-clause-given_back : goal.returns-clause-given_back
returns-clause-given_back c =
    λ code fits one shows. good c ∙ code_shown_by-boxes_of c.args.paper c.args.counts.now code c.told-counts fits one shows

pub returns-clause-shown : goal.returns-clause-shown
returns-clause-shown c =
    let bits = bits_of_number 42 c.in_ok-read_number.field-0 in
    let shown : shown_by c.args.counts.now ≡ map Some bits = c.in_ok-read_number.ensures.1 in
    let code : c.code_of_number-code.result ≡ code_of_bits bits = c.code_of_number-code.ensures in
    let width = length-bits_of_number 42 c.in_ok-read_number.field-0 in
    rw code (
      IsInRange-code_of_bits bits width,
      sym (ap (λ (x : PageCode). x.version) code) ∙ c.if-code-version_of.false ∙ c.version_of.ensures.exact,
      Shows-code_of_bits c.args.counts.now bits c.told-counts width shown,
    )

pub returns-in_err-read_number-clause-bad_pair : goal.returns-in_err-read_number-clause-bad_pair
returns-in_err-read_number-clause-bad_pair c = code_shown_by-BadPair c.args.paper c.args.counts.now _ c.told-counts (bad c)

pub returns-then-code-version_of-clause-bad_pair : goal.returns-then-code-version_of-clause-bad_pair
returns-then-code-version_of-clause-bad_pair c = code_shown_by-BadPair c.args.paper c.args.counts.now _ c.told-counts (other c)

pub returns-clause-bad_pair : goal.returns-clause-bad_pair
returns-clause-bad_pair c = code_shown_by-BadPair c.args.paper c.args.counts.now _ c.told-counts (good c)

pub returns-in_err-read_number-clause-other_version : goal.returns-in_err-read_number-clause-other_version
returns-in_err-read_number-clause-other_version c =
    λ code fits another shows. bad c ∙ code_shown_by-other c.args.paper c.args.counts.now code c.told-counts fits another shows

pub returns-then-code-version_of-clause-other_version : goal.returns-then-code-version_of-clause-other_version
returns-then-code-version_of-clause-other_version c =
    λ code fits another shows. other c ∙ code_shown_by-other c.args.paper c.args.counts.now code c.told-counts fits another shows

pub returns-clause-other_version : goal.returns-clause-other_version
returns-clause-other_version c =
    λ code fits another shows. good c ∙ code_shown_by-other c.args.paper c.args.counts.now code c.told-counts fits another shows
