-- The fields of a row without a fault: the filled ones come first, each is the text of its number, and the others are blank.
use Rattle.std.proofs.Common.{◌≡◌, ℕ, zero, suc, ◌+◌, ◌-◌, ◌*◌, ◌<◌, ◌≤◌, Bool, true, false, cond, ◌&&◌, ◌||◌, eqb, ltb, leb, ◌⊎◌, List, [], ◌∷◌, length, get_or, take, Some, None, sym, refl, ap, ◌∙◌, subst, inl, inr, arith}
use Rattle.std.specs.List.{slice_get}
use Rattle.std.proofs.lemmas.Slice.Eq.{bytes_eq-Decides}
use Rattle.std.proofs.lemmas.Bool.{cases_lt, and_parts, leb-true, ltb-true, eqb-true}
use Rattle.std.proofs.lemmas.List.{length-take, get_or-take}
use Rattle.std.proofs.lemmas.Option.{slice_get-get_or, slice_get_past}
use Rattle.refusal.specs.declared.refusal.Refusal.TheVariants.{FieldForm, FieldRange}
use Rattle.refusal.specs.Faults.{fault_at}
use Rattle.layout.specs.declared.shape.Shape.{Shape}
use Rattle.layout.specs.Text.{columns, decoded, blank, numeral}
use Rattle.sheet_format.specs.Shapes.{lowest, highest}
use Rattle.sheet_format.specs.Decoding.{field, numbers, filled_below, filled}
use Rattle.sheet_format.specs.FirstFault.{unless, well_formed, in_range, field_fault, fields_fault}
use Rattle.sheet_format.proofs.OfKinds.{numbers_at}
use Rattle.sheet_format.proofs.SoundLooks.{all_passed, test_passed, each_passed}

-- a filled field: k fields before it are filled, which are all before it
pub record Filled (s : Shape) (j k : ℕ) (x : List ℕ) : Type 0 where
  pub some : blank x ≡ false
  pub written : x ≡ columns (Some (decoded x))
  pub allowed : j < s.allowed
  pub packed : k ≡ j
  pub low : lowest s j ≤ decoded x
  pub high : decoded x ≤ highest s j

-- a blank field
pub record Empty (s : Shape) (j : ℕ) (x : List ℕ) : Type 0 where
  pub none : blank x ≡ true
  pub written : x ≡ columns None
  pub spare : s.needed ≤ j

by_blank : (b : Bool) (s : Shape) (j k : ℕ) (x : List ℕ) → blank x ≡ b
    → cond b (leb s.needed j) (numeral x && (ltb j s.allowed && eqb k j)) ≡ true
    → (b || (leb (lowest s j) (decoded x) && leb (decoded x) (highest s j))) ≡ true
    → Filled s j k x ⊎ Empty s j x
by_blank true s j k x is form range =
    inr (record { none = is; written = (bytes_eq-Decides x (columns None)).0 is; spare = leb-true s.needed j form })
by_blank false s j k x is form range =
    let parts = and_parts (numeral x) (ltb j s.allowed && eqb k j) form in
    let places = and_parts (ltb j s.allowed) (eqb k j) parts.1 in
    let bounds = and_parts (leb (lowest s j) (decoded x)) (leb (decoded x) (highest s j)) range in
    inl (record {
      some = is;
      written = (bytes_eq-Decides x (columns (Some (decoded x)))).0 parts.0;
      allowed = ltb-true j s.allowed places.0;
      packed = eqb-true k j places.1;
      low = leb-true (lowest s j) (decoded x) bounds.0;
      high = leb-true (decoded x) (highest s j) bounds.1;
    })

pub field_passed : (s : Shape) (j k : ℕ) (x : List ℕ) → field_fault s j k x ≡ None → Filled s j k x ⊎ Empty s j x
unfolding field_fault
field_passed s j k x e =
    let form = fault_at FieldForm (2 + 5 * j) in
    let range = fault_at FieldRange (2 + 5 * j) in
    let p = all_passed (unless (well_formed s j k x) form ∷ unless (in_range s j x) range ∷ []) e in
    by_blank (blank x) s j k x refl (test_passed (well_formed s j k x) form p.0) (test_passed (in_range s j x) range p.1.0)

-- the fields below n: the filled ones are the first ones
packed : (s : Shape) (text : List ℕ) (n : ℕ)
    → ((i : ℕ) → i < n → Filled s i (filled_below i text) (field i text) ⊎ Empty s i (field i text))
    → (filled_below n text ≤ n) × ((i : ℕ) → i < n →
    ((i < filled_below n text) × Filled s i (filled_below i text) (field i text)) ⊎ ((filled_below n text ≤ i) × Empty s i (field i text)))
packed s text zero h = (omega arith, λ i l. absurd (omega arith))
packed s text (suc n) h =
    let now = filled_below (suc n) text in
    let before = packed s text n (λ i l. h i (omega arith)) in
    elim (h n (omega arith)) [
      | inl f ↦
          let more : now ≡ suc n = ap (λ b. filled_below n text + cond b 0 1) f.some ∙ omega arith in (
            omega arith,
            λ i l. elim (cases_lt i n) [
              | inl below ↦ elim (before.1 i below) [
                | inl g ↦ inl (omega arith, g.1)
                | inr g ↦ absurd (omega arith)
              ]
              | inr last ↦ let here : n ≡ i = omega arith in
                  inl (omega arith, subst (λ k. Filled s k (filled_below k text) (field k text)) here f)
            ],
          )
      | inr f ↦
          let same : now ≡ filled_below n text = ap (λ b. filled_below n text + cond b 0 1) f.none ∙ omega arith in (
            omega arith,
            λ i l. elim (cases_lt i n) [
              | inl below ↦ elim (before.1 i below) [
                | inl g ↦ inl (omega arith, g.1)
                | inr g ↦ inr (omega arith, g.1)
              ]
              | inr last ↦ let here : n ≡ i = omega arith in inr (omega arith, subst (λ k. Empty s k (field k text)) here f)
            ],
          )
    ]

-- what the six fields hold: the first k of the numbers
pub record Holds (s : Shape) (text : List ℕ) (k : ℕ) : Type 0 where
  pub needed : s.needed ≤ 6 → s.needed ≤ k
  pub allowed : k ≤ s.allowed
  pub within : k ≤ 6
  pub some : (j : ℕ) → j < k → blank (field j text) ≡ false
  pub none : (j : ℕ) → j < 6 → k ≤ j → blank (field j text) ≡ true
  pub written : (j : ℕ) → j < 6 → field j text ≡ columns (slice_get (take k (numbers text)) j)
  pub low : (j : ℕ) → j < k → lowest s j ≤ get_or (numbers text) j 0
  pub high : (j : ℕ) → j < k → get_or (numbers text) j 0 ≤ highest s j

-- one of the first k elements, and none past them
nth_front : (xs : List ℕ) (k j d : ℕ) → j < length xs → j < k → slice_get (take k xs) j ≡ Some (get_or xs j d)
nth_front xs k j d l m =
    let long : j < length (take k xs) = simp length-take (omega arith) in
    slice_get-get_or (take k xs) j d long ∙ ap Some (get_or-take k xs j d m)

nth_beyond : (xs : List ℕ) (k j : ℕ) → k ≤ j → slice_get (take k xs) j ≡ None
nth_beyond xs k j l = slice_get_past (take k xs) j (simp length-take (omega arith))

holds : (s : Shape) (text : List ℕ) (k : ℕ) → k ≤ 6
    → ((i : ℕ) → i < 6 → ((i < k) × Filled s i (filled_below i text) (field i text)) ⊎ ((k ≤ i) × Empty s i (field i text)))
    → Holds s text k
holds s text k few all =
    let front : (j : ℕ) → j < k → Filled s j (filled_below j text) (field j text) = λ j l. elim (all j (omega arith)) [
      | inl f ↦ f.1
      | inr f ↦ absurd (omega (arith, f.0))
    ] in
    record {
      needed = λ six. elim (cases_lt k 6) [
        | inl l ↦ elim (all k l) [
          | inl f ↦ absurd (omega (arith, f.0))
          | inr f ↦ f.1.spare
        ]
        | inr l ↦ omega arith
      ];
      allowed = elim (cases_lt 0 k) [
        | inl l ↦ omega (arith, (front (k - 1) (omega arith)).allowed)
        | inr l ↦ omega arith
      ];
      within = few;
      some = λ j l. (front j l).some;
      none = λ j l m. elim (all j l) [
        | inl f ↦ absurd (omega (arith, f.0))
        | inr f ↦ f.1.none
      ];
      written = λ j l. elim (all j l) [
        | inl f ↦ f.1.written ∙ ap columns (ap Some (sym (numbers_at text j l)) ∙ sym (nth_front (numbers text) k j 0 l f.0))
        | inr f ↦ f.1.written ∙ ap columns (sym (nth_beyond (numbers text) k j f.0))
      ];
      low = λ j l. rw (numbers_at text j (omega arith)) (front j l).low;
      high = λ j l. rw (numbers_at text j (omega arith)) (front j l).high;
    }

pub fields_passed : (s : Shape) (text : List ℕ) → fields_fault s text ≡ None → Holds s text (filled text)
fields_passed s text e =
    let all = packed s text 6 (λ i l. field_passed s i (filled_below i text) (field i text)
    (each_passed 6 (λ j. field_fault s j (filled_below j text) (field j text)) e i l)) in
    holds s text (filled text) all.0 all.1
