-- What is found in the scan of a turned page.
use Rattle.std.proofs.Common.{◌≡◌, ℕ, ◌+◌, ◌-◌, ◌*◌, ◌≤◌, List, true, ℤ, pos, ◌-ℤ◌, arith}
use Rattle.vx_plane.specs.Plane.{Pixels, Page, dark_at}
use Rattle.vx_grid.specs.declared.paper.Paper.{Paper}
use Rattle.vx_grid.specs.declared.places.Point.{Point}
use Rattle.vx_grid.specs.declared.sizes.HalfSides.{HalfSides}
use Rattle.vx_grid.specs.Paper.{last_row}
use Rattle.vx_grid.specs.Grid.{last_column}
use Rattle.vx_grid.specs.Marks.{marks as marks_of}
use Rattle.vx_grid.specs.Borders.{MarkPlaces}
use Rattle.vx_grid.specs.Places.{point_at}
use Rattle.vx_grid.specs.Sizes.{bubble, window_of, zone_of}
use Rattle.vx_mark_model.specs.Corner.{IsInCornerRegion}
use Rattle.vx_fit.specs.Fit.{place_of}
use Rattle.vx_geom.specs.Slants.{Slant, IsSlant}
use Rattle.vx_geom.proofs.Turned.{turned-slant}
use Rattle.vx_margin.specs.Marks.{mark_image, image_of, LiesNear}
use Rattle.vx_margin.specs.Flips.{flips_on, frame_of}
use Rattle.vx_margin.specs.Shown.{ShowsBorder, IsInStartRegion, count_round, dark_round}
use Rattle.vx_margin.specs.Chains.{IsChain, LieAtMarks}
use Rattle.vx_margin.specs.Turned.{IsTurned, last_x, last_y, turned_set, slant_turned}
use Rattle.vx_margin.proofs.Turned.{marks-turned, shows-turned}
use Rattle.vx_margin.proofs.Ends.{turned-chain}
use Rattle.vx_margin.proofs.Places.{places-near}
use Rattle.vx_margin.proofs.Windows.{window-whole}
use Rattle.vx_margin.proofs.Reserved.{round-turned, flips-round}

pub turned-chains : (s : Slant) (scan other : Page) (paper : Paper) (marks : Pixels) (n : ℕ) (places : List Point)
    → IsTurned scan other → ShowsBorder s other paper marks → IsInStartRegion (mark_image s paper 0)
    → scan.width ≤ 2000 → scan.height ≤ 52 * last_row paper + 350 → 34 ≤ n → n ≤ marks_of paper
    → IsChain scan (last_row paper) n places → IsInCornerRegion (point_at places 0)
    → LieAtMarks (slant_turned paper scan s) paper n places
turned-chains s scan other paper marks n places turned shows start wide high many all chain region =
    turned-chain s scan other paper marks (turned_set paper marks) turned shows start wide high
    (marks-turned paper marks shows.marks_are) (shows-turned s scan other paper turned marks shows.shows) n many places chain region all

pub turned-windows : (s : Slant) (scan other : Page) (border : MarkPlaces) (set : Pixels) (half : HalfSides) (c r most : ℕ)
    → IsTurned scan other → IsSlant s
    → ((u v : ℤ) → dark_at scan u v ≡ true → frame_of scan u v ≡ true)
    → LieAtMarks (slant_turned border.paper scan s) border.paper (marks_of border.paper) border.places
    → half.across ≤ bubble.across → half.down ≤ bubble.down → c ≤ last_column → r ≤ last_row border.paper
    → count_round border.paper (zone_of half) (last_column - c) (last_row border.paper - r) (flips_on s other set) ≤ most
    → dark_round scan (window_of half) (place_of border c r)
    ≤ count_round border.paper (zone_of half) (last_column - c) (last_row border.paper - r) set + most
turned-windows s scan other border set half c r most turned slant framed near narrow low few below few_flips =
    let paper : Paper = border.paper in
    let t : Slant = slant_turned paper scan s in
    let t_slant : IsSlant t = turned-slant last_x (last_y paper) (pos scan.width -ℤ pos 1) (pos scan.height -ℤ pos 1) s slant in
    let close : LiesNear 6 4 (place_of border c r) (image_of t paper c r) = places-near t t_slant border near c r few below in
    let flips_same : count_round paper (zone_of half) c r (flips_on t scan (turned_set paper set)) ≡ count_round paper (zone_of half) (33 - c) (last_row paper - r) (flips_on s other set) =
    flips-round s scan other paper turned (zone_of half) c r set few below in
    let set_same : count_round paper (zone_of half) c r (turned_set paper set) ≡ count_round paper (zone_of half) (33 - c) (last_row paper - r) set =
    round-turned paper (zone_of half) c r set few below in
    let most_dark : dark_round scan (window_of half) (place_of border c r) ≤ count_round paper (zone_of half) c r (turned_set paper set) + most =
    window-whole t t_slant scan paper (turned_set paper set) half narrow low c r (place_of border c r) close most (omega (arith, flips_same, few_flips)) framed in
    omega (arith, most_dark, set_same)
