use mathlib.Core.Path.{◌≡◌, refl, sym, ◌∙◌}
use mathlib.Core.Bool.{Bool, true, false}
use mathlib.Core.Logic.{◌↔◌}
use mathlib.Core.List.{List}
use Prim.Native.Nat.{◌<◌}
use lib.Dec.{ltb}
use lib.ListN.{get_or}
use borrow.Author.Rules.{rules}
use borrow.Author.Tests.{lt-ltb, ltb-true}
use Rattle.std.specs.Prelude.{IsTrue, EachIndex}
use Rattle.laws.specs.Define.{all_of}
use Rattle.laws.proofs.Tables.{all_at, all_from_each}
use Rattle.floor.specs.declared.Layout.{Layout}
use Rattle.floor.specs.Memory.{zero_layout}
use Rattle.image_read.proofs.all_named.Goals as goal

each_all : (b : Bool) (l : List Layout) → (IsTrue b ↔ EachIndex l (λ k. 0 < (get_or l k zero_layout).name)) → b ≡ all_of (λ x. ltb 0 x.name) l
each_all b l h = go b (all_of (λ x. ltb 0 x.name) l) refl h
  where
    go : (b a : Bool) → all_of (λ x. ltb 0 x.name) l ≡ a → (IsTrue b ↔ EachIndex l (λ k. 0 < (get_or l k zero_layout).name)) → b ≡ a
    go true a e h = sym (all_from_each (λ x. ltb 0 x.name) l zero_layout (λ k q. lt-ltb 0 _ (h.0 refl k q))) ∙ e
    go false true e h = h.1 (λ k q. ltb-true 0 _ (all_at (λ x. ltb 0 x.name) l zero_layout e k q))
    go false false e h = refl

pub returns : goal.returns
returns c =
    let each : IsTrue c.all.result ↔ EachIndex c.args.layouts.now (λ k. 0 < (get_or c.args.layouts.now k zero_layout).name) = search rules in
    each_all _ _ each
