-- Document 02, [1]: a booking without a place. "A booking without a place takes the place with the lowest b, then the lowest a, that keeps the spacing."
use Rattle.std.specs.Prelude.{Bool, cond, not, List, [], ◌∷◌, ℕ, zero, suc, leb, ltb, eqb}
use Rattle.laws.specs.Define.{all_of, bit}
use Rattle.floor.specs.declared.Canister.{Canister}
use Rattle.floor.specs.declared.Settings.{Settings}
use Rattle.floor.specs.declared.Floor.{Floor}
use Rattle.floor.specs.declared.Placed.{Placed}
use Rattle.floor.specs.Settings.{total, spacing, span}
use Rattle.floor.specs.Model.{Model, tile_of, members_of}
use Rattle.floor.specs.Memory.{view}
use Rattle.floor.specs.Well.{apart}
use Rattle.floor.specs.Calls.{answer, booked}

-- the least number from k on, n of them tried, that passes; k + n where none does
unfoldable pub least_from : (ℕ → Bool) → ℕ → ℕ → ℕ
least_from p k zero = k
least_from p k (suc n) = let r = least_from p (suc k) n in cond (p k) k r

-- the least number below n that passes; n where none does
unfoldable pub least : (ℕ → Bool) → ℕ → ℕ
least p n = least_from p 0 n

-- whether a canister at a, b keeps the spacing d to the canisters l
unfoldable pub clear : ℕ → List Canister → ℕ → ℕ → Bool
clear d l a b = all_of (apart d (record { number = 0; a = a; b = b })) l

-- the lowest a at b, and the lowest b with such an a, of those below n, which is U - l + 1; n where there is none
unfoldable pub lowest_a_of : ℕ → ℕ → List Canister → ℕ → ℕ
lowest_a_of d n l b = least (λ a. clear d l a b) n

unfoldable pub lowest_b_of : ℕ → ℕ → List Canister → ℕ
lowest_b_of d n l = least (λ b. ltb (lowest_a_of d n l b) n) n

-- on a tile with the canisters l
unfoldable pub place_b : Settings → List Canister → ℕ
place_b s l = lowest_b_of (spacing s) (suc (span s)) l

unfoldable pub place_a : Settings → List Canister → ℕ
place_a s l = lowest_a_of (spacing s) (suc (span s)) l (place_b s l)

-- "Checks run as for a booking, without 7"; "40, no place on the tile, where 34 stood": 30, 4, 5, 6, 31, 33, 40
unfoldable pub placing_tests : Settings → ℕ → ℕ → ℕ → ℕ → List Canister → List (Bool × ℕ)
placing_tests s last t number running l =
    (leb (total s) t, 4) ∷ (not (bit s.sources t), 5) ∷ (eqb number 0, 6)
    ∷ (not (eqb running 1), 31) ∷ (leb number last, 33) ∷ (ltb (span s) (place_b s l), 40) ∷ []

unfoldable pub anywhere_tests : Model → ℕ → ℕ → List (Bool × ℕ)
unfolding placing_tests
anywhere_tests m t number = placing_tests m.settings m.counters.last t number (tile_of m t).running (members_of m t)

-- the canister at the place found
unfoldable pub placed_at : Model → ℕ → ℕ → Canister
placed_at m t number = record { number = number; a = place_a m.settings (members_of m t); b = place_b m.settings (members_of m t) }

-- "Its outcome equals a booking at that place."; the place is told, refused zeros
unfoldable pub anywhere_answer : Floor → ℕ → ℕ → Placed
anywhere_answer f t number =
    let m = view f in let c = placed_at m t number in let r = answer f (anywhere_tests m t number) (booked m t c) in
    record { floor = r.floor; a = cond (eqb r.refusal 0) c.a 0; b = cond (eqb r.refusal 0) c.b 0; refusal = r.refusal }
