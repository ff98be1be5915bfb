use Rattle.std.proofs.Common.{◌≡◌, length}
use Rattle.vx_command_check.specs.Walks.{pages_counted}
use Rattle.vx_command_check.proofs.walking.count_pages.Given as goal

-- the pages that were read and those that are left are as many as before
abbrev pub invariant-pages : goal.invariant-pages
invariant-pages l = pages_counted l.fn.said ≡ pages_counted l.said

abbrev pub decreases-pages : goal.decreases-pages
decreases-pages l = length l.said.left.lines
