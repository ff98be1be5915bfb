-- What is counted of some pages and sheets, and then of more.
use Rattle.std.proofs.Common.{◌≡◌, ℕ, ◌+◌, Bool, true, false, cond, List, [], ◌∷◌, ◌++◌, ℤ, pos, refl, sym, ap, ap₂, ◌∙◌, arith, length-append}
use Rattle.std.specs.Prelude.{sum_by, Result, Ok, Err}
use Rattle.std.proofs.lemmas.List.Sums.{sum_by-append}
use Rattle.std.proofs.lemmas.List.Concat.{flat_map-append}
use Rattle.vx_plane.specs.Plane.{Page}
use Rattle.vx_election_model.specs.declared.election.Election.{Election}
use Rattle.vx_election_model.specs.declared.reason.Reason.{Reason}
use Rattle.vx_election_model.specs.declared.reason.Reason.TheVariants.{Overvote, Undervote, MarginalMark, BlankBallot, WriteIn}
use Rattle.vx_layout.specs.Printed.{PrintedPage}
use Rattle.vx_rules.specs.declared.marks.SheetMarks.{SheetMarks}
use Rattle.vx_scan_model.specs.declared.reading.PageReading.{PageReading}
use Rattle.vx_scan_model.specs.declared.fault.PageFault.{PageFault}
use Rattle.vx_sheet.specs.declared.came.Came.{Came}
use Rattle.vx_sheet.specs.Came.{sheet_read}
use Rattle.vx_command_demo.specs.declared.sums.PageSums.{PageSums}
use Rattle.vx_command_demo.specs.declared.sums.ReasonSums.{ReasonSums}
use Rattle.vx_command_demo.specs.declared.counted.Counted.{Counted}
use Rattle.vx_command_demo.specs.Trials.{Trial}
use Rattle.vx_command_demo.specs.Sums.{of_reading, read_as, says, is_accepted, is_as_truth, is_certified, marks_on, marks_read, columns_on, columns_read, rows_on, rows_read, scores_on, scores_read, page_sums, reason_sums, times, of_sheet, contests_with}
use Rattle.vx_command_demo.specs.Summary.{pages_in}
use Rattle.vx_command_demo.specs.Adding.{one_if, both_pages, both_reasons, counted_of, both, sums_of_read, reasons_read}
use Rattle.vx_command_demo.proofs.Signed.{signed-append, signed-one}

-- sums are the same where each is
abbrev sums_of : ℕ → ℕ → ℕ → ℕ → ℤ → ℤ → ℕ → PageSums
sums_of p t d m u v s = record { pages = p; as_truth = t; certified = d; marks = m; columns = u; rows = v; scores = s }

pub same-pages : (a b : PageSums) → a.pages ≡ b.pages → a.as_truth ≡ b.as_truth → a.certified ≡ b.certified → a.marks ≡ b.marks → a.columns ≡ b.columns → a.rows ≡ b.rows → a.scores ≡ b.scores → a ≡ b
same-pages a b p t d m u v s =
    ap (λ (x : ℕ). sums_of x a.as_truth a.certified a.marks a.columns a.rows a.scores) p
    ∙ (ap (λ (x : ℕ). sums_of b.pages x a.certified a.marks a.columns a.rows a.scores) t
    ∙ (ap (λ (x : ℕ). sums_of b.pages b.as_truth x a.marks a.columns a.rows a.scores) d
    ∙ (ap (λ (x : ℕ). sums_of b.pages b.as_truth b.certified x a.columns a.rows a.scores) m
    ∙ (ap (λ (x : ℤ). sums_of b.pages b.as_truth b.certified b.marks x a.rows a.scores) u
    ∙ (ap (λ (x : ℤ). sums_of b.pages b.as_truth b.certified b.marks b.columns x a.scores) v
    ∙ ap (λ (x : ℕ). sums_of b.pages b.as_truth b.certified b.marks b.columns b.rows x) s)))))

abbrev reasons_with : ℕ → ℕ → ℕ → ℕ → ℕ → ReasonSums
reasons_with o u m n w = record { overvote = o; undervote = u; marginal = m; blank = n; write_in = w }

same-reasons : (a b : ReasonSums) → a.overvote ≡ b.overvote → a.undervote ≡ b.undervote → a.marginal ≡ b.marginal → a.blank ≡ b.blank → a.write_in ≡ b.write_in → a ≡ b
same-reasons a b o u m n w =
    ap (λ (x : ℕ). reasons_with x a.undervote a.marginal a.blank a.write_in) o
    ∙ (ap (λ (x : ℕ). reasons_with b.overvote x a.marginal a.blank a.write_in) u
    ∙ (ap (λ (x : ℕ). reasons_with b.overvote b.undervote x a.blank a.write_in) m
    ∙ (ap (λ (x : ℕ). reasons_with b.overvote b.undervote b.marginal x a.write_in) n
    ∙ ap (λ (x : ℕ). reasons_with b.overvote b.undervote b.marginal b.blank x) w)))

pub same-counted : (a b : Counted) → a.pages ≡ b.pages → a.reasons ≡ b.reasons → a ≡ b
same-counted a b p r =
    let Of : PageSums → ReasonSums → Counted = λ x y. record { pages = x; reasons = y } in
    ap₂ Of p r

pub pages-append : (election : Election) (xs ys : List Trial) → page_sums election (xs ++ ys) ≡ both_pages (page_sums election xs) (page_sums election ys)
pages-append election xs ys =
    same-pages (page_sums election (xs ++ ys)) (both_pages (page_sums election xs) (page_sums election ys))
    (length-append xs ys)
    (sum_by-append (λ (t : Trial). cond (is_as_truth election t) 1 0) xs ys)
    (sum_by-append (λ (t : Trial). cond (is_certified election t) 1 0) xs ys)
    (sum_by-append (marks_on election) xs ys)
    (signed-append (columns_on election) xs ys)
    (signed-append (rows_on election) xs ys)
    (sum_by-append (scores_on election) xs ys)

reasons-push : (election : Election) (sheets : List (List Trial)) (sheet : List Trial) → reason_sums election (sheets ++ sheet ∷ []) ≡ both_reasons (reason_sums election sheets) (reason_sums election (sheet ∷ []))
reasons-push election sheets sheet =
    let both_times : (reason : Reason) → sum_by (times election reason) (sheets ++ sheet ∷ []) ≡ sum_by (times election reason) sheets + sum_by (times election reason) (sheet ∷ []) =
    λ reason. sum_by-append (times election reason) sheets (sheet ∷ []) in
    same-reasons (reason_sums election (sheets ++ sheet ∷ [])) (both_reasons (reason_sums election sheets) (reason_sums election (sheet ∷ [])))
    (both_times Overvote) (both_times Undervote) (both_times MarginalMark) (both_times BlankBallot) (both_times WriteIn)

-- one sheet more
pub counted-push : (election : Election) (sheets : List (List Trial)) (sheet : List Trial) → counted_of election (sheets ++ sheet ∷ []) ≡ both (counted_of election sheets) (counted_of election (sheet ∷ []))
counted-push election sheets sheet =
    same-counted (counted_of election (sheets ++ sheet ∷ [])) (both (counted_of election sheets) (counted_of election (sheet ∷ [])))
    (ap (page_sums election) (flat_map-append (λ (trials : List Trial). trials) sheets (sheet ∷ []))
    ∙ pages-append election (pages_in sheets) (pages_in (sheet ∷ [])))
    (reasons-push election sheets sheet)

-- one page
zero-or-one : (b : Bool) → 0 + cond b 1 0 ≡ one_if b
zero-or-one true = omega arith
zero-or-one false = omega arith

nothing-first : (n : ℕ) → 0 + n ≡ n
nothing-first n = omega arith

-- sums of a page, number by number
abbrev each_read : Election → PrintedPage → List Bool → Page → Result PageReading PageFault → PageSums
each_read election printed marks scan r = record {
  pages = 1;
  as_truth = one_if (of_reading false (says printed marks) r);
  certified = one_if (of_reading false (is_accepted election scan) r);
  marks = of_reading 0 marks_read r;
  columns = of_reading (pos 0) columns_read r;
  rows = of_reading (pos 0) rows_read r;
  scores = of_reading 0 scores_read r;
}

read-of : (election : Election) (printed : PrintedPage) (marks : List Bool) (scan : Page) (r : Result PageReading PageFault)
    → sums_of_read election printed marks scan r ≡ each_read election printed marks scan r
read-of election printed marks scan (Ok reading) = refl
read-of election printed marks scan (Err fault) = refl

pub one-page : (election : Election) (trial : Trial) → page_sums election (trial ∷ []) ≡ sums_of_read election trial.printed trial.marks trial.scan (read_as election trial)
one-page election trial =
    same-pages (page_sums election (trial ∷ [])) (each_read election trial.printed trial.marks trial.scan (read_as election trial))
    refl
    (zero-or-one (is_as_truth election trial))
    (zero-or-one (is_certified election trial))
    (nothing-first (marks_on election trial))
    (signed-one (columns_on election) trial)
    (signed-one (rows_on election) trial)
    (nothing-first (scores_on election trial))
    ∙ sym (read-of election trial.printed trial.marks trial.scan (read_as election trial))

-- one sheet of two pages
abbrev each_reason : Election → Result SheetMarks Came → ReasonSums
each_reason election r = record {
  overvote = of_sheet (contests_with election Overvote) r;
  undervote = of_sheet (contests_with election Undervote) r;
  marginal = of_sheet (contests_with election MarginalMark) r;
  blank = of_sheet (contests_with election BlankBallot) r;
  write_in = of_sheet (contests_with election WriteIn) r;
}

sheet-of : (election : Election) (r : Result SheetMarks Came) → reasons_read election r ≡ each_reason election r
sheet-of election (Ok sheet) = refl
sheet-of election (Err came) = refl

abbrev pub of_two : Election → Trial → Trial → Counted
of_two election front back = record {
  pages = both_pages (page_sums election (front ∷ [])) (page_sums election (back ∷ []));
  reasons = reasons_read election (sheet_read election 1 (read_as election front) (read_as election back));
}

pub one-sheet : (election : Election) (front back : Trial) → counted_of election ((front ∷ back ∷ []) ∷ []) ≡ of_two election front back
one-sheet election front back =
    let read : Result SheetMarks Came = sheet_read election 1 (read_as election front) (read_as election back) in
    let all : Counted = counted_of election ((front ∷ back ∷ []) ∷ []) in
    same-counted all (of_two election front back)
    (pages-append election (front ∷ []) (back ∷ []))
    (same-reasons all.reasons (each_reason election read)
    (nothing-first (of_sheet (contests_with election Overvote) read))
    (nothing-first (of_sheet (contests_with election Undervote) read))
    (nothing-first (of_sheet (contests_with election MarginalMark) read))
    (nothing-first (of_sheet (contests_with election BlankBallot) read))
    (nothing-first (of_sheet (contests_with election WriteIn) read))
    ∙ sym (sheet-of election read))
