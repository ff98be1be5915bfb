use Rattle.std.proofs.Common.{◌≡◌, ◌∙◌, ◌++◌, ℕ, List, length, Vec, Global, ap, zero-add}
use Rattle.std.specs.List.{concat}
use Rattle.vx_command_queue.specs.Queue.{count_line, queue_lines, queue_text}
use Rattle.vx_command_queue.proofs.queueing.WhatWaitsAccount.text.Goals as goal

pub returns : goal.returns
unfolding queue_text
returns c =
    let lines = queue_lines c.args.election.now c.args.center.now.events in
    let count : c.in_ok-queue.queue.count ≡ length lines = c.in_ok-queue.ensures.counted ∙ zero-add (length lines) in
    c.from_vec.ensures ∙ ap (λ (bytes : Vec ℕ Global). bytes.items) c.into_bytes.ensures.value ∙ c.in_ok-push_count.ensures
    ∙ ap (λ (text : List ℕ). text ++ count_line c.in_ok-queue.queue.count) c.in_ok-queue.ensures.got
    ∙ ap (λ (n : ℕ). concat lines ++ count_line n) count
