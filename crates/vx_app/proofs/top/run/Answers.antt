use Rattle.std.proofs.Common.{◌∙◌, [], Some, refl, subst}
use Rattle.std.proofs.lemmas.Bool.{false≢true}
use Rattle.vx_command.specs.Done.{Held, IsDone}
use Rattle.vx_command.specs.Status.{answer_of}
use Rattle.vx_words.specs.declared.command.Command.TheVariants.{Check, Count, Export, Queue, Read}
use Rattle.vx_app.specs.Outcome.{outcome_of}
use Rattle.vx_app.proofs.Calls.{is-run}
use Rattle.vx_app.proofs.Journals.{done-of, kept-over}
use Rattle.vx_app.proofs.top.run.Goals as goal

pub returns-clause-margin : goal.returns-clause-margin
returns-clause-margin g c files told election scans spells =
    c.fitting_scans_are_told.ensures election scans files (g.S.Sink.taken c.args.out.now) (g.S.Sink.taken c.run_words.new.out)
    (g.K.Keeper.held c.args.keeper.now) (g.K.Keeper.held c.run_words.new.keeper) _
    (c.run_words.ensures.done files told (Read election scans) (record { spells = spells; is_run = refl }) [] (λ uses. absurd (false≢true uses)))

pub returns-clause-certified : goal.returns-clause-certified
returns-clause-certified g c files told election scans readings spells =
    c.certified_pages_say_what_fits.ensures election scans readings files (g.S.Sink.taken c.args.out.now) (g.S.Sink.taken c.run_words.new.out)
    (g.K.Keeper.held c.args.keeper.now) (g.K.Keeper.held c.run_words.new.keeper) _
    (c.run_words.ensures.done files told (Check election scans readings) (record { spells = spells; is_run = refl }) [] (λ uses. absurd (false≢true uses)))

pub returns-clause-margin_of_count : goal.returns-clause-margin_of_count
returns-clause-margin_of_count g c files told election batch workers scans spells records held =
    c.fitting_sheets_are_kept.ensures election batch scans files records (g.S.Sink.taken c.args.out.now) (g.S.Sink.taken c.run_words.new.out)
    (g.K.Keeper.held c.args.keeper.now) (g.K.Keeper.held c.run_words.new.keeper) _
    (c.run_words.ensures.done files told (Count election batch workers scans) (record { spells = spells; is_run = refl }) records (λ uses. held))

pub returns-clause-journal_kept : goal.returns-clause-journal_kept
returns-clause-journal_kept g c files told command spells election for_it records held events is =
    let taken = g.S.Sink.taken c.args.out.now in
    let taken_now = g.S.Sink.taken c.run_words.new.out in
    let held_now = g.K.Keeper.held c.run_words.new.keeper in
    let answer = answer_of c.run_words.result in
    let Done : Held → Type 0 = λ before. IsDone (outcome_of command files records) taken taken_now before held_now answer in
    kept-over c.count_keeps_journals.ensures c.decide_keeps_journals.ensures c.center_keeps_journals.ensures c.journals_stay.ensures c.fronts_are_journals.ensures
    command spells.spells.device files election records events taken taken_now held_now answer
    spells.spells.sound for_it is (λ still. c.run_words.ensures.keeper_held command spells still ∙ held)
    (done-of command files records taken taken_now held_now answer spells.is_run (subst Done held (c.run_words.ensures.done files told command spells records (λ uses. held))))

pub returns-clause-a_run : goal.returns-clause-a_run
returns-clause-a_run g c files told command spells election for_it records held =
    let taken = g.S.Sink.taken c.args.out.now in
    let taken_now = g.S.Sink.taken c.run_words.new.out in
    let held_now = g.K.Keeper.held c.run_words.new.keeper in
    let answer = answer_of c.run_words.result in
    let Done : Held → Type 0 = λ before. IsDone (outcome_of command files records) taken taken_now before held_now answer in
    is-run election records c.args.words.now command files taken taken_now held_now answer spells.spells for_it
    (λ still. c.run_words.ensures.keeper_held command spells still ∙ held)
    (done-of command files records taken taken_now held_now answer spells.is_run (subst Done held (c.run_words.ensures.done files told command spells records (λ uses. held))))

pub returns-clause-exported : goal.returns-clause-exported
returns-clause-exported g c files told election moment device spells records held =
    c.exports_write_what_was_kept.ensures election moment device files records (g.S.Sink.taken c.args.out.now) (g.S.Sink.taken c.run_words.new.out)
    (g.K.Keeper.held c.args.keeper.now) (g.K.Keeper.held c.run_words.new.keeper) _
    (c.run_words.ensures.done files told (Export election moment device) (record { spells = spells; is_run = refl }) records (λ uses. held))

pub returns-clause-queued : goal.returns-clause-queued
returns-clause-queued g c files told election spells records held =
    c.queues_write_what_waits.ensures election files records (g.S.Sink.taken c.args.out.now) (g.S.Sink.taken c.run_words.new.out)
    (g.K.Keeper.held c.args.keeper.now) (g.K.Keeper.held c.run_words.new.keeper) _
    (c.run_words.ensures.done files told (Queue election) (record { spells = spells; is_run = refl }) records (λ uses. held))
