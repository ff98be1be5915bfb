-- A scan fits one printed page at most.
use Rattle.std.proofs.Common.{◌≡◌, ◌∙◌, sym, ap, List, [], ◌∷◌, map, Bool, true, false, Result, Ok, refl}
use Rattle.vx_code.specs.declared.code.PageCode.{PageCode}
use Rattle.vx_layout.specs.Printed.{PrintedPage, code_of}
use Rattle.vx_scan_model.specs.declared.reading.PageReading.{PageReading}
use Rattle.vx_scan_model.specs.declared.fault.PageFault.{PageFault}
use Rattle.vx_scan_model.specs.Fits.{state_of_mark, FittingScansAreRead, FitsOnePage}

pub same-reading : (a b : PageReading) → ◌≡◌ {A = Result PageReading PageFault} (Ok a) (Ok b) → a ≡ b
same-reading a b e = cc

same-mark : (a b : Bool) → state_of_mark a ≡ state_of_mark b → a ≡ b
same-mark true true e = refl
same-mark true false e = cc
same-mark false true e = cc
same-mark false false e = refl

same-marks : (a b : List Bool) → map state_of_mark a ≡ map state_of_mark b → a ≡ b
same-marks [] [] e = refl
same-marks [] (y ∷ ys) e = cc
same-marks (x ∷ xs) [] e = cc
same-marks (x ∷ xs) (y ∷ ys) e =
    let head : state_of_mark x ≡ state_of_mark y = cc in
    let tail : map state_of_mark xs ≡ map state_of_mark ys = cc in
    let one : x ≡ y = same-mark x y head in
    let rest : xs ≡ ys = same-marks xs ys tail in
    ap (λ z. z ∷ xs) one ∙ ap (λ zs. y ∷ zs) rest

same-page : (a b : PrintedPage) → a.card ≡ b.card → a.page ≡ b.page → a.kind ≡ b.kind → a.test ≡ b.test → a ≡ b
same-page a b card page kind test =
    ap (λ c. let p : PrintedPage = record { card = c; page = a.page; kind = a.kind; test = a.test } in p) card
    ∙ (ap (λ n. let p : PrintedPage = record { card = b.card; page = n; kind = a.kind; test = a.test } in p) page
    ∙ (ap (λ k. let p : PrintedPage = record { card = b.card; page = b.page; kind = k; test = a.test } in p) kind
    ∙ ap (λ t. let p : PrintedPage = record { card = b.card; page = b.page; kind = b.kind; test = t } in p) test))

pub fits-one : FittingScansAreRead → FitsOnePage
fits-one read election scan printed other plan other_plan marks other_marks valid whole fits fits_too =
    let first = read election scan printed plan marks valid whole fits in
    let second = read election scan other other_plan other_marks valid whole fits_too in
    let same : first.reading ≡ second.reading = same-reading first.reading second.reading (sym first.is_read ∙ second.is_read) in
    let code : code_of election printed ≡ code_of election other = sym first.says.code_is ∙ (ap (λ (r : PageReading). r.code) same ∙ second.says.code_is) in
    let states : map state_of_mark marks ≡ map state_of_mark other_marks = sym first.says.states_are ∙ (ap (λ (r : PageReading). r.states) same ∙ second.says.states_are) in (
      same-page printed other (ap (λ (c : PageCode). c.card) code) (ap (λ (c : PageCode). c.page) code) (ap (λ (c : PageCode). c.kind) code) (ap (λ (c : PageCode). c.test) code),
      same-marks marks other_marks states,
    )
