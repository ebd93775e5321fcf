-- A clause written into memory word by word: its literals, its heads, and what the whole list then is.
use Rattle.std.proofs.Common.{◌≡◌, ℕ, suc, ◌+◌, ◌-◌, ◌<◌, ◌≤◌, true, false, ◌⊎◌, List, [], ◌∷◌, ◌++◌, length, get_or, take, replicate, sym, ap, ◌∙◌, inl, inr, append_assoc, arith, length-append}
use lib.ListN.{length-replicate, length-map}
use Rattle.std.proofs.lemmas.List.{take_more, take_all, map_push, replicate_more, get_or_append_left, get_or-append_right, get_or-replicate}
use Rattle.std.proofs.lemmas.Bool.{cases_lt}
use Rattle.clause.specs.Logic.{Clause, words, some_outside, all_inside}
use Rattle.clause.specs.Memory.{head, is_head}
use Rattle.clause.specs.declared.literal.Literal.{Literal}
use Rattle.clause.proofs.Inside.{inside_push}
use Rattle.clause.proofs.Coding.{stored, coded_words, head_stays, head_last}
use Rattle.trail.specs.Cells.{literals_of, heads_of, formula, empty_literal}
use Rattle.trail.specs.Standing.{Loaded}
use Rattle.trail.specs.declared.cells.Word.{Word}

-- one word more
pub store_literal : (new old : List Word) (w : Word) (c : Clause) (i : ℕ) (before : List Literal) → new ≡ old ++ (w ∷ []) → w.literal ≡ get_or c i empty_literal → i < length c
    → literals_of old ≡ before ++ take i c → literals_of new ≡ before ++ take (i + 1) c
store_literal new old w c i before n e l s =
    ap literals_of n ∙ map_push (λ x. x.literal) old w ∙ ap (λ x. x ++ (w.literal ∷ [])) s ∙ append_assoc before (take i c) (w.literal ∷ [])
    ∙ ap (λ x. before ++ (take i c ++ (x ∷ []))) e ∙ ap (λ x. before ++ x) (sym (take_more c i empty_literal l))

pub store_head : (new old : List Word) (w : Word) (u i : ℕ) (before : List ℕ) → new ≡ old ++ (w ∷ []) → w.head ≡ u
    → heads_of old ≡ before ++ replicate i u → heads_of new ≡ before ++ replicate (i + 1) u
store_head new old w u i before n e s =
    ap heads_of n ∙ map_push (λ x. x.head) old w ∙ ap (λ x. x ++ (w.head ∷ [])) s ∙ append_assoc before (replicate i u) (w.head ∷ [])
    ∙ ap (λ x. before ++ (replicate i u ++ (x ∷ []))) e ∙ ap (λ x. before ++ x) (replicate_more i u)

-- the whole clause, after its head
pub store_literals : (new first old : List Word) (w : Word) (c : Clause) (i : ℕ) → first ≡ old ++ (w ∷ []) → w.literal ≡ head (length c) → length c ≤ i
    → literals_of new ≡ literals_of first ++ take i c → literals_of new ≡ literals_of old ++ (head (length c) ∷ c)
store_literals new first old w c i n e l s =
    s ∙ ap (λ x. x ++ take i c) (ap literals_of n ∙ map_push (λ x. x.literal) old w ∙ ap (λ x. literals_of old ++ (x ∷ [])) e)
    ∙ append_assoc (literals_of old) (head (length c) ∷ []) (take i c) ∙ ap (λ x. literals_of old ++ (head (length c) ∷ x)) (take_all i c l)

pub store_heads : (new first old : List Word) (w : Word) (u i n : ℕ) → first ≡ old ++ (w ∷ []) → w.head ≡ u → n ≡ i
    → heads_of new ≡ heads_of first ++ replicate i u → heads_of new ≡ heads_of old ++ replicate (1 + n) u
store_heads new first old w u i n m e l s =
    let more : suc i ≡ 1 + n = omega arith in
    s ∙ ap (λ x. x ++ replicate i u) (ap heads_of m ∙ map_push (λ x. x.head) old w ∙ ap (λ x. heads_of old ++ (x ∷ [])) e)
    ∙ append_assoc (heads_of old) (u ∷ []) (replicate i u) ∙ ap (λ k. heads_of old ++ replicate k u) more

-- The memory is loaded with one clause more.
pub loaded_more : (v : ℕ) (old new : List Word) (c : Clause) → Loaded v old → some_outside v c ≡ false
    → literals_of new ≡ literals_of old ++ (head (length c) ∷ c) → heads_of new ≡ heads_of old ++ replicate (1 + length c) (length old)
    → Loaded v new × (formula new ≡ formula old ++ (c ∷ []))
loaded_more v old new c l o e f =
    let st = stored (literals_of old) (literals_of new) c l.coded e in
    let size : words (formula old) ≡ length old = coded_words (literals_of old) l.coded ∙ length-map old (λ w. w.literal) in (
      record {
        coded = st.coded;
        inside = ap (all_inside v) st.clauses ∙ inside_push v (formula old) c l.inside o;
        headed = λ w h. ap (λ cs. is_head cs (get_or (heads_of new) w 0)) st.clauses ∙ ap (λ x. is_head (formula old ++ (c ∷ [])) (get_or x w 0)) f ∙ at w h (cases_lt w (length old)) size;
      },
      st.clauses,
    )
  where
    whole : length (heads_of new) ≡ length old + (1 + length c)
    whole = ap length f ∙ omega (arith, length-append (heads_of old) (replicate (1 + length c) (length old)), length-map old (λ w. w.head), length-replicate (1 + length c) (length old))

    at : (w : ℕ) → w < length new → (w < length old) ⊎ (length old ≤ w) → words (formula old) ≡ length old
        → is_head (formula old ++ (c ∷ [])) (get_or (heads_of old ++ replicate (1 + length c) (length old)) w 0) ≡ true
    at w h (inl lt) size =
        ap (is_head (formula old ++ (c ∷ []))) (get_or_append_left (heads_of old) (replicate (1 + length c) (length old)) 0 w (omega (arith, length-map old (λ w. w.head))))
        ∙ head_stays (formula old) c (get_or (heads_of old) w 0) (l.headed w lt)
    at w h (inr ge) size =
        ap (is_head (formula old ++ (c ∷ []))) (get_or-append_right (heads_of old) (replicate (1 + length c) (length old)) (length old) w 0 (length-map old (λ w. w.head)) ge
        ∙ get_or-replicate (1 + length c) (w - length old) (length old) 0 (omega (arith, whole, length-map new (λ w. w.head))) ∙ sym size)
        ∙ head_last (formula old) c
