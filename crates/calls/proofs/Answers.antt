-- The answers of fresh and of reading, refused and accepted, and of a refused round, as the definitions give them.
use mathlib.Core.Path.{◌≡◌, sym}
use mathlib.Core.Logic.{◌≢◌}
use mathlib.Core.Bool.{false}
use mathlib.Core.List.{List, []}
use Prim.Native.Nat.{ℕ}
use lib.ListN.{get_or}
use borrow.Author.Tests.{ne_eqb}
use Rattle.laws.specs.Define.{tab}
use Rattle.floor.specs.declared.Canister.{Canister}
use Rattle.floor.specs.declared.Settings.{Settings}
use Rattle.floor.specs.declared.Tile.{Tile}
use Rattle.floor.specs.declared.Floor.{Floor}
use Rattle.floor.specs.declared.Answer.{Answer}
use Rattle.floor.specs.declared.Reading.{Reading}
use Rattle.floor.specs.declared.Rounded.{Rounded}
use Rattle.floor.specs.Settings.{settings_refusal}
use Rattle.floor.specs.Model.{tile_of, members_of}
use Rattle.floor.specs.Memory.{zero_canister, zero_floor, view, head, pack}
use Rattle.floor.specs.Well.{well_formed}
use Rattle.floor.specs.Calls.{refusal_of, fresh_floor, fresh_answer, read_tests, read_answer, zero_report, round_answer}
use Rattle.floor.proofs.Answers.{malformed}
use Rattle.calls.specs.InternalRefused.{unread_with}

-- ---- fresh
pub fresh_refused : (s : Settings) (z : Floor) (n : ℕ) → n ≡ settings_refusal s → n ≢ 0 → z ≡ zero_floor → ◌≡◌ {A = Answer} (record { refusal = n; floor = z }) (fresh_answer s)
unfolding fresh_answer
fresh_refused s z n e p q = rw (sym e, ne_eqb n 0 p, q)

pub fresh_accepted : (s : Settings) (g : Floor) → settings_refusal s ≡ 0 → g ≡ pack (fresh_floor s) → ◌≡◌ {A = Answer} (record { refusal = 0; floor = g }) (fresh_answer s)
unfolding fresh_answer
fresh_accepted s g e p = rw (e, p)

-- ---- reading
pub read_refused : (f : Floor) (t n : ℕ) (r : Reading) → refusal_of f (read_tests (view f) t) ≡ n → n ≢ 0 → r ≡ unread_with n → r ≡ read_answer f t
unfolding read_answer unread_with
read_refused f t n r e z q = rw (e, ne_eqb n 0 z) q

pub read_accepted : (f : Floor) (t : ℕ) (h : Tile) (items : List Canister) → refusal_of f (read_tests (view f) t) ≡ 0
    → h ≡ head (tile_of (view f) t) → items ≡ tab 16 (λ k. get_or (members_of (view f) t) k zero_canister)
    → ◌≡◌ {A = Reading} (record { refusal = 0; tile = h; members = items }) (read_answer f t)
unfolding read_answer
read_accepted f t h items e p q = rw (e, p, q)

-- ---- a round
pub round_refused : (f : Floor) → well_formed f ≡ false → ◌≡◌ {A = Rounded} (record { refusal = 30; floor = f; report = zero_report }) (round_answer f)
unfolding round_answer
round_refused f w = rw (malformed f [] w)
