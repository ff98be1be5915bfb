use Rattle.std.proofs.Common.{refl, subst, sym}
use Rattle.std.proofs.lemmas.Bool.{false≢true}
use Rattle.vx_command.specs.Done.{Held, IsDone}
use Rattle.vx_command.specs.Status.{answer_of}
use Rattle.vx_command_count.specs.Outcome.{count_outcome}
use Rattle.vx_words.specs.declared.command.Command.TheVariants.{Count}
use Rattle.vx_app.proofs.Calls.{is-run}
use Rattle.vx_app.proofs.Journals.{kept-over}
use Rattle.vx_app.proofs.top.run_count.Goals as goal

pub returns-clause-no_usage : goal.returns-clause-no_usage
returns-clause-no_usage g c is =
    let count = c.requires in
    c.run_words.ensures.usage.0 is (Count count.election count.batch count.workers count.scans) (record { spells = count.spells; is_run = refl })

pub returns-clause-done : goal.returns-clause-done
returns-clause-done g c files told records kept election batch workers scans spells =
    c.run_words.ensures.done files told (Count election batch workers scans) (record { spells = spells; is_run = refl }) records (λ uses. kept)

pub returns-clause-nothing_written : goal.returns-clause-nothing_written
returns-clause-nothing_written g c before =
    let count = c.requires in
    c.run_words.ensures.nothing_written (Count count.election count.batch count.workers count.scans) (record { spells = count.spells; is_run = refl }) before

pub returns-clause-asked : goal.returns-clause-asked
returns-clause-asked g c election batch workers scans spells =
    c.run_words.ensures.asked (Count election batch workers scans) (record { spells = spells; is_run = refl })

pub returns-clause-margin_of_count : goal.returns-clause-margin_of_count
returns-clause-margin_of_count g c files told election batch workers scans spells records held =
    c.fitting_sheets_are_kept.ensures election batch scans files records (g.S.Sink.taken c.args.out.now) (g.S.Sink.taken c.run_words.new.out)
    (g.K.Keeper.held c.args.keeper.now) (g.K.Keeper.held c.run_words.new.keeper) _
    (c.run_words.ensures.done files told (Count election batch workers scans) (record { spells = spells; is_run = refl }) records (λ uses. held))

pub returns-clause-journal_kept : goal.returns-clause-journal_kept
returns-clause-journal_kept g c files told name batch workers scans spells election named records held events is =
    let taken = g.S.Sink.taken c.args.out.now in
    let taken_now = g.S.Sink.taken c.run_words.new.out in
    let held_now = g.K.Keeper.held c.run_words.new.keeper in
    let answer = answer_of c.run_words.result in
    let Done : Held → Type 0 = λ before. IsDone (count_outcome name batch scans files records) taken taken_now before held_now answer in
    kept-over c.count_keeps_journals.ensures c.decide_keeps_journals.ensures c.center_keeps_journals.ensures c.journals_stay.ensures c.fronts_are_journals.ensures
    (Count name batch workers scans) spells.device files election records events taken taken_now held_now answer
    spells.sound named is (λ still. absurd (false≢true (sym still)))
    (subst Done held (c.run_words.ensures.done files told (Count name batch workers scans) (record { spells = spells; is_run = refl }) records (λ uses. held)))

pub returns-clause-a_run : goal.returns-clause-a_run
returns-clause-a_run g c files told name batch workers scans spells election named records held =
    let taken = g.S.Sink.taken c.args.out.now in
    let taken_now = g.S.Sink.taken c.run_words.new.out in
    let held_now = g.K.Keeper.held c.run_words.new.keeper in
    let answer = answer_of c.run_words.result in
    let Done : Held → Type 0 = λ before. IsDone (count_outcome name batch scans files records) taken taken_now before held_now answer in
    is-run election records c.args.words.now (Count name batch workers scans) files taken taken_now held_now answer spells named
    (λ still. absurd (false≢true (sym still)))
    (subst Done held (c.run_words.ensures.done files told (Count name batch workers scans) (record { spells = spells; is_run = refl }) records (λ uses. held)))
