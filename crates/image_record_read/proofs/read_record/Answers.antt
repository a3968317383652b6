use mathlib.Core.Logic.{◌≢◌}
use mathlib.Core.Path.{◌∙◌, sym}
use Prim.Native.Nat.{ℕ, zero, suc, ◌≤◌}
use native.Mathlib.Omega.{arith}
use Rattle.image_record_read.proofs.Exits.{passed_up}
use Rattle.image_record_read.proofs.Refusals.{headed, record_bare, record_cut, record_other, record_1, record_2, record_3, record_4, record_5, holds_1, holds_2, holds_3, holds_5}
use Rattle.image_record_read.proofs.read_record.Goals as goal

-- a kind that is none of the five is not the one due
other : (k d : ℕ) → k ≢ 1 → k ≢ 2 → k ≢ 3 → k ≢ 4 → k ≢ 5 → 1 ≤ d → d ≤ 5 → k ≢ d
other k zero a b c e f h q = absurd (omega arith)
other k (suc zero) a b c e f h q = a
other k (suc (suc zero)) a b c e f h q = b
other k (suc (suc (suc zero))) a b c e f h q = c
other k (suc (suc (suc (suc zero)))) a b c e f h q = e
other k (suc (suc (suc (suc (suc zero))))) a b c e f h q = f
other k (suc (suc (suc (suc (suc (suc d)))))) a b c e f h q = absurd (omega arith)

pub returns-then-left-lt4 : goal.returns-then-left-lt4
returns-then-left-lt4 c = let g = c.args in (record_bare g.s.now g.at g.due g.tile (omega arith) (omega arith), tt)

pub returns-then-left-from : goal.returns-then-left-from
returns-then-left-from c = let g = c.args in (record_cut g.s.now g.at g.due g.tile _ c.read_at-n.ensures (omega arith) (omega arith), tt)

pub returns-in_err-read_settings-in-1 : goal.returns-in_err-read_settings-in-1
returns-in_err-read_settings-in-1 c = passed_up _ _ c.from_residual.result c.from_residual.ensures.1 (c.in_err-read_settings-in-1.ensures.0 ∙ record_1 (headed c.args.s.now c.args.at c.read_at-n.result c.read_at-kind.result c.read_at-n.ensures c.read_at-kind.ensures (omega arith)) _ _ c.in-1.is c.if-due-eq1.true)

pub returns-in_ok-read_settings-in-1 : goal.returns-in_ok-read_settings-in-1
returns-in_ok-read_settings-in-1 c = let e = c.in_ok-read_settings-in-1.ensures in (e.0 ∙ record_1 (headed c.args.s.now c.args.at c.read_at-n.result c.read_at-kind.result c.read_at-n.ensures c.read_at-kind.ensures (omega arith)) _ _ c.in-1.is c.if-due-eq1.true, holds_1 (headed c.args.s.now c.args.at c.read_at-n.result c.read_at-kind.result c.read_at-n.ensures c.read_at-kind.ensures (omega arith)) _ c.args.tile c.if-due-eq1.true _ e.1)

pub returns-in_err-read_counters-in-2 : goal.returns-in_err-read_counters-in-2
returns-in_err-read_counters-in-2 c = passed_up _ _ c.from_residual-in_err-read_counters-in-2.result c.from_residual-in_err-read_counters-in-2.ensures.1 (c.in_err-read_counters-in-2.ensures.0 ∙ record_2 (headed c.args.s.now c.args.at c.read_at-n.result c.read_at-kind.result c.read_at-n.ensures c.read_at-kind.ensures (omega arith)) _ _ c.in-2.is c.if-due-eq2.true)

pub returns-in_ok-read_counters-in-2 : goal.returns-in_ok-read_counters-in-2
returns-in_ok-read_counters-in-2 c = let e = c.in_ok-read_counters-in-2.ensures in (e.0 ∙ record_2 (headed c.args.s.now c.args.at c.read_at-n.result c.read_at-kind.result c.read_at-n.ensures c.read_at-kind.ensures (omega arith)) _ _ c.in-2.is c.if-due-eq2.true, holds_2 (headed c.args.s.now c.args.at c.read_at-n.result c.read_at-kind.result c.read_at-n.ensures c.read_at-kind.ensures (omega arith)) _ c.args.tile c.if-due-eq2.true _ e.1)

pub returns-in_err-read_tile-in-3 : goal.returns-in_err-read_tile-in-3
returns-in_err-read_tile-in-3 c = passed_up _ _ c.from_residual-in_err-read_tile-in-3.result c.from_residual-in_err-read_tile-in-3.ensures.1 (c.in_err-read_tile-in-3.ensures.0 ∙ record_3 (headed c.args.s.now c.args.at c.read_at-n.result c.read_at-kind.result c.read_at-n.ensures c.read_at-kind.ensures (omega arith)) _ _ c.in-3.is c.if-due-eq3.true)

pub returns-in_ok-read_tile-in-3 : goal.returns-in_ok-read_tile-in-3
returns-in_ok-read_tile-in-3 c = let e = c.in_ok-read_tile-in-3.ensures in (e.0 ∙ record_3 (headed c.args.s.now c.args.at c.read_at-n.result c.read_at-kind.result c.read_at-n.ensures c.read_at-kind.ensures (omega arith)) _ _ c.in-3.is c.if-due-eq3.true, holds_3 (headed c.args.s.now c.args.at c.read_at-n.result c.read_at-kind.result c.read_at-n.ensures c.read_at-kind.ensures (omega arith)) _ c.args.tile c.if-due-eq3.true _ e.1)

pub returns-in_err-read_end-in-4 : goal.returns-in_err-read_end-in-4
returns-in_err-read_end-in-4 c = passed_up _ _ c.from_residual-in_err-read_end-in-4.result c.from_residual-in_err-read_end-in-4.ensures.1 (c.in_err-read_end-in-4.ensures ∙ record_4 (headed c.args.s.now c.args.at c.read_at-n.result c.read_at-kind.result c.read_at-n.ensures c.read_at-kind.ensures (omega arith)) _ _ c.in-4.is c.if-due-eq4.true)

pub returns-in_ok-read_end-in-4 : goal.returns-in_ok-read_end-in-4
returns-in_ok-read_end-in-4 c = (c.in_ok-read_end-in-4.ensures ∙ record_4 (headed c.args.s.now c.args.at c.read_at-n.result c.read_at-kind.result c.read_at-n.ensures c.read_at-kind.ensures (omega arith)) _ _ c.in-4.is c.if-due-eq4.true, c.if-due-eq4.true)

pub returns-in_err-read_layout-in-5 : goal.returns-in_err-read_layout-in-5
returns-in_err-read_layout-in-5 c = passed_up _ _ c.from_residual-in_err-read_layout-in-5.result c.from_residual-in_err-read_layout-in-5.ensures.1 (c.in_err-read_layout-in-5.ensures.0 ∙ record_5 (headed c.args.s.now c.args.at c.read_at-n.result c.read_at-kind.result c.read_at-n.ensures c.read_at-kind.ensures (omega arith)) _ _ c.in-5.is c.if-due-eq5.true)

pub returns-in_ok-read_layout-in-5 : goal.returns-in_ok-read_layout-in-5
returns-in_ok-read_layout-in-5 c = let e = c.in_ok-read_layout-in-5.ensures in (e.0 ∙ record_5 (headed c.args.s.now c.args.at c.read_at-n.result c.read_at-kind.result c.read_at-n.ensures c.read_at-kind.ensures (omega arith)) _ _ c.in-5.is c.if-due-eq5.true, holds_5 (headed c.args.s.now c.args.at c.read_at-n.result c.read_at-kind.result c.read_at-n.ensures c.read_at-kind.ensures (omega arith)) _ c.args.tile c.if-due-eq5.true _ e.1)

pub returns-in_default : goal.returns-in_default
returns-in_default c = (record_other (headed c.args.s.now c.args.at c.read_at-n.result c.read_at-kind.result c.read_at-n.ensures c.read_at-kind.ensures (omega arith)) _ _ (λ d. c.if-due-eq1.false (sym d ∙ c.in-1.is)), tt)

pub returns-in_default-2 : goal.returns-in_default-2
returns-in_default-2 c = (record_other (headed c.args.s.now c.args.at c.read_at-n.result c.read_at-kind.result c.read_at-n.ensures c.read_at-kind.ensures (omega arith)) _ _ (λ d. c.if-due-eq2.false (sym d ∙ c.in-2.is)), tt)

pub returns-in_default-3 : goal.returns-in_default-3
returns-in_default-3 c = (record_other (headed c.args.s.now c.args.at c.read_at-n.result c.read_at-kind.result c.read_at-n.ensures c.read_at-kind.ensures (omega arith)) _ _ (λ d. c.if-due-eq3.false (sym d ∙ c.in-3.is)), tt)

pub returns-in_default-4 : goal.returns-in_default-4
returns-in_default-4 c = (record_other (headed c.args.s.now c.args.at c.read_at-n.result c.read_at-kind.result c.read_at-n.ensures c.read_at-kind.ensures (omega arith)) _ _ (λ d. c.if-due-eq4.false (sym d ∙ c.in-4.is)), tt)

pub returns-in_default-5 : goal.returns-in_default-5
returns-in_default-5 c = (record_other (headed c.args.s.now c.args.at c.read_at-n.result c.read_at-kind.result c.read_at-n.ensures c.read_at-kind.ensures (omega arith)) _ _ (λ d. c.if-due-eq5.false (sym d ∙ c.in-5.is)), tt)

pub returns-in_default-6 : goal.returns-in_default-6
returns-in_default-6 c =
    let z = c.in_default.in_default-own.rest in
    (record_other (headed c.args.s.now c.args.at c.read_at-n.result c.read_at-kind.result c.read_at-n.ensures c.read_at-kind.ensures (omega arith)) _ _ (other _ _ z.0.0.0.0.1 z.0.0.0.1 z.0.0.1 z.0.1 z.1 (omega arith) (omega arith)), tt)
