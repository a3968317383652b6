-- What a hopper takes in, listed.
use mathlib.Core.Path.{◌≡◌, refl, sym, ap, ◌∙◌}
use mathlib.Core.List.{List, [], ◌∷◌}
use Prim.Native.Nat.{ℕ, zero, suc}
use native.Mathlib.Omega.{arith}
use lib.ListN.{get_or, length-map}
use Rattle.laws.specs.Define.{tab}
use Rattle.laws.proofs.Tables.{tab_same}
use Rattle.floor.specs.declared.Canister.{Canister}
use Rattle.floor.specs.declared.Delivery.{Delivery}
use Rattle.round_members.specs.declared.Members.{Members}
use Rattle.floor.specs.Model.{numbers}
use Rattle.floor.specs.Memory.{zero_canister}
use Rattle.floor.specs.Calls.{delivery_of}
use Rattle.round_members.specs.InternalMembers.{Holds}

number_at : (l : List Canister) (k : ℕ) → get_or (numbers l) k 0 ≡ (get_or l k zero_canister).number
number_at [] k = refl
number_at (x ∷ l) zero = refl
number_at (x ∷ l) (suc k) = number_at l k

pub listed : (m : Members) (l : List Canister) (d : Delivery) → Holds m l → d ≡ record { numbers = tab 4 (λ k. (get_or m.items k zero_canister).number); count = m.count } → d ≡ delivery_of (numbers l)
unfolding delivery_of
listed m l d h e =
    e ∙ ap (λ (x : List ℕ). record { numbers = x; count = m.count }) same
    ∙ ap (λ (n : ℕ). record { numbers = tab 4 (λ k. get_or (numbers l) k 0); count = n }) (h.0 ∙ sym (length-map l (λ (c : Canister). c.number)))
  where
    same : tab 4 (λ k. (get_or m.items k zero_canister).number) ≡ tab 4 (λ k. get_or (numbers l) k 0)
    same = tab_same 4 (λ k. (get_or m.items k zero_canister).number) (λ k. get_or (numbers l) k 0) (λ k i. ap (λ (c : Canister). c.number) (h.1 k (omega arith)) ∙ sym (number_at l k))

-- what the walk of the code reads beyond a list of deliveries
abbrev pub beyond : Delivery
beyond = record { numbers = []; count = 0 }
