-- What holds at the head of the loop over the four floors.
use mathlib.Core.Path.{◌≡◌}
use mathlib.Core.Bool.{Bool, ◌&&◌}
use Prim.Native.Nat.{ℕ, ◌*◌, ◌^◌, ◌≤◌}
use lib.ListN.{length}
use Rattle.laws.specs.Define.{all_below}
use Rattle.barge.specs.declared.Barge.{Barge}
use Rattle.barge.specs.Barges.{allowance_sound}
use Rattle.barge_parts.proofs.Joint.{well_at, counted}

pub record Checked (barge : Barge) (sound : Bool) (total k : ℕ) : Type 0 where
  pub below : k ≤ 4
  pub floors_length : length barge.floors ≡ 4
  pub checked : sound ≡ (allowance_sound barge.allowance && all_below (well_at barge) k)
  pub totalled : total ≡ counted barge k
  pub small : total ≤ k * 2 ^ 32
