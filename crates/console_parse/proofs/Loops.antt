-- What holds at the head of the loop: over a list of tiles.
use mathlib.Core.List.{List}
use Prim.Native.Nat.{ℕ, ◌≤◌}
use lib.ListN.{length}
use Rattle.console_parse.proofs.Line.{Unread}

pub record TilesRead (word : List ℕ) (set at : ℕ) : Type 0 where
  pub below : at ≤ length word
  pub unread : Unread word at set
