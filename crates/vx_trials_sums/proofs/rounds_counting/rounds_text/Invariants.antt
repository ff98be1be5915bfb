use Rattle.vx_trials_sums.proofs.rounds_counting.rounds_text.Given as goal

abbrev pub ghosts-counted : goal.ghosts-counted
ghosts-counted a = record { name = a.blank.name; parts = a.blank.parts }
