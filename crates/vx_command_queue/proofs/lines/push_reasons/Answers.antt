use Rattle.std.proofs.Common.{◌≡◌, ◌++◌, ◌∙◌, ℕ, List, string_bytes, sym, ap, arith}
use Rattle.vx_command_queue.specs.Queue.{with_commas, further}
use Rattle.vx_command_queue.proofs.Reasoned.{none_told, one_told, one_passed, words_of}
use Rattle.vx_command_queue.proofs.lines.push_reasons.Goals as goal
use Rattle.vx_command_queue.proofs.lines.push_reasons.Goals.{then-has+in_ok-push_word, else-has}

pub loop-reason-init : goal.loop-reason-init
loop-reason-init c = none_told c.args.set (string_bytes c.args.text.now)

pub loop-reason-preserved : goal.loop-reason-preserved
loop-reason-preserved c =
    elim c.if-has.branch [
      | then-has+in_ok-push_word w ↦
          rw (w.first-is, w.text-is)
          (one_told c.args.set c.loop-reason.reason-index c.loop-reason.first (string_bytes c.args.text.now) (string_bytes c.loop-reason.text) c.loop-reason.invariant _ c.loop-reason-test.true (string_bytes w.push_word.new.text) (sym c.has.ensures ∙ w.if-has.true)
          (w.in_ok-push_word.ensures ∙ ap (λ (word : List ℕ). string_bytes c.loop-reason.text ++ further c.loop-reason.first word) w.reason_word.ensures))
      | else-has w ↦
          rw (w.first-is, w.text-is)
          (one_passed c.args.set c.loop-reason.reason-index c.loop-reason.first (string_bytes c.args.text.now) (string_bytes c.loop-reason.text) c.loop-reason.invariant _ c.loop-reason-test.true (sym c.has.ensures ∙ w.if-has.false))
    ]

pub returns : goal.returns
returns c =
    let all : c.loop-reason.reason-index ≡ 5 = omega arith in
    c.loop-reason.invariant.text ∙ ap (λ (count : ℕ). string_bytes c.args.text.now ++ with_commas (words_of c.args.set count)) all
