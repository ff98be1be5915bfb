use Rattle.vx_io.proofs.Texts.{IsPrefix-nil, IsPrefix-refl, IsPrefix-take, IsPrefix-append, IsPrefix-trans, IsPrefix-behind}
use Rattle.vx_io.proofs.laws.fronts_of_texts.Goals as goal

pub returns : goal.returns
returns c =
    record {
      nothing = IsPrefix-nil;
      whole = IsPrefix-refl;
      taken = IsPrefix-take;
      continued = IsPrefix-append;
      shorter = IsPrefix-trans;
      behind = IsPrefix-behind;
    }
