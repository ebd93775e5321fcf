-- Clauses in memory: what was written is read again, clause by clause and at every head.
use Rattle.std.proofs.Common.{◌≡◌, ℕ, zero, suc, ◌+◌, ◌-◌, ◌<◌, ◌≤◌, Bool, true, false, cond, eqb, ltb, List, [], ◌∷◌, ◌++◌, map, length, get_or, take, drop, sym, refl, ap, ◌∙◌, append_assoc, append-nil, add-one, arith, length-append, length-drop, drop-cons, drop-drop, take_at, drop_at, ltb-false, le-ltb, ne_eqb, eqb-true}
use borrow.Author.Tests.{both_ways}
use Rattle.clause.specs.Logic.{Clause, clause_holds, all_hold, words, some_outside, all_inside}
use Rattle.clause.specs.Memory.{head, encode, decode, clauses_of, is_head, Begins, parts_of}
use Rattle.clause.specs.declared.literal.Literal.{Literal}
use Rattle.clause.proofs.Inside.{no_literal, both_true, all_true}

-- A clause at the front of what is left of memory.
pub record Front (ws : List Literal) (at : ℕ) (rest : List Clause) : Type 0 where
  pub clause : Clause
  pub later : List Clause
  pub is : rest ≡ clause ∷ later
  pub size : (get_or ws at no_literal).variable ≡ length clause
  pub reads : take (length clause) (drop (at + 1) ws) ≡ clause
  pub goes_on : drop (at + 1 + length clause) ws ≡ encode later
  pub fits : at + 1 + length clause ≤ length ws

pub front : (ws : List Literal) (at : ℕ) (rest : List Clause) → at < length ws → drop at ws ≡ encode rest → Front ws at rest
front ws at [] h e =
    let l : length (drop at ws) ≡ 0 = ap length e in
    absurd (omega (arith, length-drop at ws))
front ws at (c ∷ cs) h e =
    let cut : get_or ws at no_literal ∷ drop (suc at) ws ≡ head (length c) ∷ (c ++ encode cs) = sym (drop-cons ws at no_literal h) ∙ e in
    let first : get_or ws at no_literal ≡ head (length c) = cc in
    let tail : drop (suc at) ws ≡ c ++ encode cs = cc in
    let tail' : drop (at + 1) ws ≡ c ++ encode cs = ap (λ k. drop k ws) (add-one at) ∙ tail in
    let long : length (drop (at + 1) ws) ≡ length c + length (encode cs) = ap length tail' ∙ length-append c (encode cs) in
    record {
      clause = c;
      later = cs;
      is = refl;
      size = ap (λ x. x.variable) first;
      reads = ap (take (length c)) tail' ∙ take_at c (encode cs) (length c) refl;
      goes_on = sym (drop-drop (length c) (at + 1) ws) ∙ ap (drop (length c)) tail' ∙ drop_at c (encode cs) (length c) refl;
      fits = omega (arith, length-drop (at + 1) ws);
    }

-- What memory holds comes back.
decode_encode : (cs : List Clause) (k : ℕ) → length (encode cs) ≤ k → decode k (encode cs) ≡ cs
decode_encode [] zero h = refl
decode_encode [] (suc k) h = refl
decode_encode (c ∷ cs) zero h = absurd (omega arith)
decode_encode (c ∷ cs) (suc k) h =
    let long = length-append c (encode cs) in
    ap (λ x. x ∷ decode k (drop (length c) (c ++ encode cs))) (take_at c (encode cs) (length c) refl)
    ∙ ap (λ x. c ∷ decode k x) (drop_at c (encode cs) (length c) refl)
    ∙ ap (λ x. c ∷ x) (decode_encode cs k (omega arith))

pub clauses_encode : (cs : List Clause) → clauses_of (encode cs) ≡ cs
clauses_encode cs = decode_encode cs (length (encode cs)) (omega arith)

encode_append : (cs : List Clause) (c : Clause) → encode (cs ++ (c ∷ [])) ≡ encode cs ++ (head (length c) ∷ c)
encode_append [] c = ap (λ x. head (length c) ∷ x) (append-nil c)
encode_append (d ∷ cs) c = ap (λ x. head (length d) ∷ (d ++ x)) (encode_append cs c) ∙ ap (λ x. head (length d) ∷ x) (sym (append_assoc d (encode cs) (head (length c) ∷ c)))

encode_words : (cs : List Clause) → length (encode cs) ≡ words cs
encode_words [] = refl
encode_words (c ∷ cs) = omega (arith, length-append c (encode cs), encode_words cs)

pub coded_words : (ws : List Literal) → encode (clauses_of ws) ≡ ws → words (clauses_of ws) ≡ length ws
coded_words ws e = sym (encode_words (clauses_of ws)) ∙ ap length e

-- A clause written after the others.
pub record Stored (old new : List Literal) (c : Clause) : Type 0 where
  pub clauses : clauses_of new ≡ clauses_of old ++ (c ∷ [])
  pub coded : encode (clauses_of new) ≡ new

pub stored : (old new : List Literal) (c : Clause) → encode (clauses_of old) ≡ old → new ≡ old ++ (head (length c) ∷ c) → Stored old new c
stored old new c e h =
    let whole : new ≡ encode (clauses_of old ++ (c ∷ [])) = h ∙ ap (λ x. x ++ (head (length c) ∷ c)) (sym e) ∙ sym (encode_append (clauses_of old) c) in
    let back : clauses_of new ≡ clauses_of old ++ (c ∷ []) = ap clauses_of whole ∙ clauses_encode (clauses_of old ++ (c ∷ [])) in
    record { clauses = back; coded = ap encode back ∙ sym whole }

-- At every head a clause begins.
pub begins_at : (v : ℕ) (ws : List Literal) (cs : List Clause) (h : ℕ) → ws ≡ encode cs → all_inside v cs ≡ true → is_head cs h ≡ true → Begins v ws cs h
begins_at v ws [] h e i t = absurd (both_ways false refl t)
begins_at v ws (c ∷ cs) h e i t = go (λ y d. begins_at v (encode cs) cs (h - (length c + 1)) refl y d) (eqb h 0) refl
  where
    both : (some_outside v c ≡ false) × (all_inside v cs ≡ true)
    both = both_true (some_outside v c) (all_inside v cs) i

    size : length (encode (c ∷ cs)) ≡ 1 + length c + length (encode cs)
    size = omega (arith, length-append c (encode cs))

    long : length ws ≡ 1 + length c + length (encode cs)
    long = ap length e ∙ size

    after : drop (length c + 1) ws ≡ encode cs
    after = ap (drop (length c + 1)) e ∙ ap (λ k. drop k (encode (c ∷ cs))) (add-one (length c)) ∙ drop_at c (encode cs) (length c) refl

    Deeper : Type 0
    Deeper = all_inside v cs ≡ true → is_head cs (h - (length c + 1)) ≡ true → Begins v (encode cs) cs (h - (length c + 1))

    later : Deeper → eqb h 0 ≡ false → (b : Bool) → ltb h (length c + 1) ≡ b → Begins v ws (c ∷ cs) h
    later deeper z true l =
        absurd (both_ways _ (ap (λ y. cond y true (cond (ltb h (length c + 1)) false (is_head cs (h - (length c + 1))))) z ∙ ap (λ y. cond y false (is_head cs (h - (length c + 1)))) l) t)
    later deeper z false l =
        let k : ℕ = h - (length c + 1) in
        let deep : is_head cs k ≡ true = sym (ap (λ y. cond y true (cond (ltb h (length c + 1)) false (is_head cs k))) z ∙ ap (λ y. cond y false (is_head cs k)) l) ∙ t in
        let r = deeper both.1 deep in
        let far : length c + 1 ≤ h = ltb-false h (length c + 1) l in
        let place : length c + 1 + k ≡ h = omega arith in
        record {
          rest = r.rest;
          here = ap (λ y. drop y ws) (sym place) ∙ sym (drop-drop k (length c + 1) ws) ∙ ap (drop k) after ∙ r.here;
          below = omega (arith, r.below, long);
          inside = r.inside;
          entailed = λ row m. r.entailed row (all_true (clause_holds row c) (all_hold row cs) m).1;
        }

    go : Deeper → (b : Bool) → eqb h 0 ≡ b → Begins v ws (c ∷ cs) h
    go deeper true z =
        let zero_place : h ≡ 0 = eqb-true h 0 z in
        record { rest = c ∷ cs; here = ap (λ y. drop y ws) zero_place ∙ e; below = omega (arith, long); inside = i; entailed = λ row m. m }
    go deeper false z = later deeper z (ltb h (length c + 1)) refl

-- One clause more: the heads stay, and the new one stands at the end of the words.
pub head_stays : (cs : List Clause) (c : Clause) (h : ℕ) → is_head cs h ≡ true → is_head (cs ++ (c ∷ [])) h ≡ true
head_stays [] c h t = absurd (both_ways false refl t)
head_stays (d ∷ cs) c h t = go (head_stays cs c (h - (length d + 1))) (eqb h 0) (ltb h (length d + 1)) t
  where
    go : (is_head cs (h - (length d + 1)) ≡ true → is_head (cs ++ (c ∷ [])) (h - (length d + 1)) ≡ true) → (a b : Bool) → cond a true (cond b false (is_head cs (h - (length d + 1)))) ≡ true → cond a true (cond b false (is_head (cs ++ (c ∷ [])) (h - (length d + 1)))) ≡ true
    go deeper true b u = refl
    go deeper false true u = absurd (both_ways false refl u)
    go deeper false false u = deeper u

pub head_last : (cs : List Clause) (c : Clause) → is_head (cs ++ (c ∷ [])) (words cs) ≡ true
head_last [] c = refl
head_last (d ∷ cs) c =
    let far : ltb (length d + 1 + words cs) (length d + 1) ≡ false = le-ltb _ _ (omega arith) in
    let not_first : eqb (length d + 1 + words cs) 0 ≡ false = ne_eqb _ _ (λ z. omega arith) in
    let back : length d + 1 + words cs - (length d + 1) ≡ words cs = omega arith in
    rw (not_first, far) (ap (is_head (cs ++ (c ∷ []))) back ∙ head_last cs c)

-- Literals are equal where their parts are.
abbrev literals_from : List (ℕ × Bool) → List Literal
literals_from ps = map (λ p. record { variable = p.0; negated = p.1 }) ps

from_parts : (ls : List Literal) → literals_from (parts_of ls) ≡ ls
from_parts [] = refl
from_parts (l ∷ ls) = ap (λ x. l ∷ x) (from_parts ls)

pub same_literals : (ls ms : List Literal) → parts_of ls ≡ parts_of ms → ls ≡ ms
same_literals ls ms e = sym (from_parts ls) ∙ ap literals_from e ∙ from_parts ms
