use Rattle.vx_shared.proofs.sharing.SharedCenter.split.Given as goal

-- the call picks the numbers that it was given
abbrev pub ghosts-cut : goal.ghosts-cut
ghosts-cut a = record { shares = a._shares; calls = a._calls }
