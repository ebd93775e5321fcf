-- The debt falls by at least one with each literal put on the trail, and with each return to an open decision.
use Rattle.std.proofs.Common.{◌≡◌, ℕ, zero, suc, ◌+◌, ◌-◌, ◌*◌, ◌^◌, ◌<◌, ◌≤◌, Bool, true, false, cond, [], ◌∷◌, ◌++◌, length, take, ap, ◌∙◌, add-one, arith, pow_pos}
use native.Mathlib.Nat.{pow-succ'}
use Rattle.trail.specs.Trail.{Trail, entry_at}
use Rattle.trail.specs.Debt.{nodes, debt}
use Rattle.trail.specs.declared.cells.Entry.{Entry}

-- a tree is its root and the two trees below it
nodes_more : (k : ℕ) → 1 ≤ k → nodes k ≡ 2 * nodes (k - 1) + 1
nodes_more k h =
    let twice : 2 ^ (k + 1) ≡ 2 * 2 ^ k = ap (λ y. 2 ^ y) (add-one k) ∙ pow-succ' 2 k in
    let below : 2 ^ (k - 1 + 1) ≡ 2 ^ k = ap (λ y. 2 ^ y) (let e : k - 1 + 1 ≡ k = omega arith in e) in
    omega (arith, pow_pos k)

pub nodes_some : (k : ℕ) → 1 ≤ nodes k
nodes_some k =
    let twice : 2 ^ (k + 1) ≡ 2 * 2 ^ k = ap (λ y. 2 ^ y) (add-one k) ∙ pow-succ' 2 k in
    omega (arith, pow_pos k)

pub debt_some : (k : ℕ) (t : Trail) → 1 ≤ debt k t
debt_some k [] = nodes_some k
debt_some k (e ∷ t) = omega (arith, debt_some (k - 1) t)

at_most : (d : Bool) (n : ℕ) → cond d n 0 ≤ n
at_most true n = omega arith
at_most false n = omega arith

pub debt_push : (k : ℕ) (t : Trail) (e : Entry) → length t < k → debt k (t ++ (e ∷ [])) + 1 ≤ debt k t
debt_push k [] e h = omega (arith, nodes_more k (omega arith), at_most e.decided (nodes (k - 1)))
debt_push k (d ∷ t) e h = omega (arith, debt_push (k - 1) t e (omega arith))

pub debt_back : (k : ℕ) (t : Trail) (p : ℕ) (e : Entry) → p < length t → (entry_at t p).decided ≡ true → e.decided ≡ false → debt k (take p t ++ (e ∷ [])) + 1 ≤ debt k t
debt_back k [] p e h d f = absurd (omega arith)
debt_back k (x ∷ t) zero e h d f =
    let own : cond x.decided (nodes (k - 1)) 0 ≡ nodes (k - 1) = ap (λ b. cond b (nodes (k - 1)) 0) d in
    let new : cond e.decided (nodes (k - 1)) 0 ≡ 0 = ap (λ b. cond b (nodes (k - 1)) 0) f in
    omega (arith, debt_some (k - 1) t)
debt_back k (x ∷ t) (suc p) e h d f = omega (arith, debt_back (k - 1) t p e (omega arith) d f)
