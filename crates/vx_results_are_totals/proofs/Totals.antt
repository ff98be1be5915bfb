-- What `totals` does with the export of a history.
use Rattle.std.proofs.Common.{◌≡◌, ◌≤◌, ℕ, List, [], ◌∷◌, length, cond, refl, ap, ◌∙◌}
use Rattle.std.specs.Prelude.{Bool, Option, Some}
use Rattle.std.specs.Prelude as std
use Rattle.vx_base.proofs.Numbers.{below-no}
use Rattle.vx_cvr.specs.Report.{report_of}
use Rattle.vx_tally.specs.declared.report.Report.{Report}
use Rattle.vx_tally.specs.declared.fault.ReportFault.{ReportFault}
use Rattle.vx_tally.specs.Reading.{report_in_bytes}
use Rattle.vx_audit.specs.Totals.{totals_text}
use Rattle.vx_command.specs.Acts.{Take, input_limit}
use Rattle.vx_audit.specs.declared.status.AuditStatus.TheVariants.{TooLong}
use Rattle.vx_audit.specs.Outcome.{after, ended, once_read, with_report, writes}
use Rattle.vx_report_read.specs.Exported.{ReportsAreRead}
use Rattle.vx_results.specs.Report.{report_of_events}
use Rattle.vx_results.specs.Results.{results_text}
use Rattle.vx_results_are_totals.specs.Laws.{ResultsAreTheTotals, taken_and_written}

-- bytes that are short enough and read as a report
with-bytes : (bytes : List ℕ) (report : Report) → length bytes ≤ input_limit → report_in_bytes bytes ≡ std.Ok report
    → with_report (Some bytes) (λ given. writes (totals_text given)) ≡ taken_and_written (totals_text report)
with-bytes bytes report short read =
    ap (λ (b : Bool). after (Take 1 ∷ []) (cond b (ended (TooLong 1 (length bytes))) (once_read (report_in_bytes bytes) (λ given. writes (totals_text given)))))
    (below-no input_limit (length bytes) short)
    ∙ ap (λ (r : std.Result Report ReportFault). after (Take 1 ∷ []) (once_read r (λ given. writes (totals_text given)))) read

pub are-totals : ReportsAreRead → ResultsAreTheTotals
unfolding results_text
are-totals law election kept moment device name files of words there short =
    let bytes : List ℕ = report_of election kept moment device in
    let read : report_in_bytes bytes ≡ std.Ok (report_of_events election kept) = law election kept moment device of words in
    record {
      text = totals_text (report_of_events election kept);
      totals =
          ap (λ (file : Option (List ℕ)). with_report file (λ given. writes (totals_text given))) there
          ∙ with-bytes bytes (report_of_events election kept) short read;
      results = refl;
    }
