use Rattle.std.proofs.Common.{◌≡◌, ◌+◌, ◌*◌, ap, arith}
use Rattle.vx_command_demo.specs.declared.sums.PageSums.{PageSums}
use Rattle.vx_command_demo.specs.Trials.{Trial, try_page}
use Rattle.vx_command_demo.proofs.Tried.{one-each, two-counted, two-drawn}
use Rattle.vx_command_demo.proofs.Within.{reasons-more}
use Rattle.vx_command_demo.proofs.sheets.try_pages.Goals as goal

pub both_pages-requires-clause-few : goal.both_pages-requires-clause-few
both_pages-requires-clause-few g c =
    let one : Trial = (try_page c.args.election.now c.args.card c.args.front.now c.args.rng.now).0 in
    let two : Trial = (try_page c.args.election.now c.args.card c.args.back.now c.try_page.new.rng).0 in
    let ahead : c.in_ok-front.front.sums.pages ≡ 1 = one-each c.args.election.now one c.in_ok-front.front.sums c.in_ok-front.ensures.sums in
    let behind : c.in_ok-back.back.sums.pages ≡ 1 = one-each c.args.election.now two c.in_ok-back.back.sums c.in_ok-back.ensures.sums in
    omega (arith, ahead, behind)

pub returns-clause-counted : goal.returns-clause-counted
returns-clause-counted g c =
    two-counted c.args.election.now c.args.card c.args.front.now c.args.back.now c.args.rng.now c.try_page.new.rng
    c.in_ok-front.front.sums c.in_ok-back.back.sums c.both_pages.result c.in_ok-reasons.reasons c.in_ok-front.front.read c.in_ok-back.back.read
    c.in_ok-front.ensures.next c.in_ok-front.ensures.sums c.in_ok-back.ensures.sums c.both_pages.ensures.sums
    c.in_ok-front.ensures.read c.in_ok-back.ensures.read c.in_ok-reasons.ensures.sums

pub returns-clause-two : goal.returns-clause-two
returns-clause-two g c =
    let one : Trial = (try_page c.args.election.now c.args.card c.args.front.now c.args.rng.now).0 in
    let two : Trial = (try_page c.args.election.now c.args.card c.args.back.now c.try_page.new.rng).0 in
    let ahead : c.in_ok-front.front.sums.pages ≡ 1 = one-each c.args.election.now one c.in_ok-front.front.sums c.in_ok-front.ensures.sums in
    let behind : c.in_ok-back.back.sums.pages ≡ 1 = one-each c.args.election.now two c.in_ok-back.back.sums c.in_ok-back.ensures.sums in
    let both : c.both_pages.result.pages ≡ c.in_ok-front.front.sums.pages + c.in_ok-back.back.sums.pages = ap (λ (s : PageSums). s.pages) c.both_pages.ensures.sums in
    omega (arith, ahead, behind, both)

pub returns-clause-within : goal.returns-clause-within
returns-clause-within g c =
    let one : Trial = (try_page c.args.election.now c.args.card c.args.front.now c.args.rng.now).0 in
    let ahead : c.in_ok-front.front.sums.pages ≡ 1 = one-each c.args.election.now one c.in_ok-front.front.sums c.in_ok-front.ensures.sums in
    let both : c.both_pages.result.pages ≡ c.in_ok-front.front.sums.pages + c.in_ok-back.back.sums.pages = ap (λ (s : PageSums). s.pages) c.both_pages.ensures.sums in
    record {
      pages = c.both_pages.ensures.within;
      reasons = reasons-more 500 (c.both_pages.result.pages * 500) c.in_ok-reasons.reasons (omega (arith, ahead, both)) c.in_ok-reasons.ensures.few;
    }

pub returns-clause-next : goal.returns-clause-next
returns-clause-next g c =
    two-drawn c.args.election.now c.args.card c.args.front.now c.args.back.now c.args.rng.now c.try_page.new.rng c.try_page-2.new.rng
    c.in_ok-front.ensures.next c.in_ok-back.ensures.next
