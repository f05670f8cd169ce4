-- The records of a front of a text.
use Rattle.byte_streams.proofs.Names.{◌≡◌, ◌==◌, ◌+◌, ◌≤◌, ℕ, suc, Bool, true, false, List, [], ◌∷◌, ◌++◌, length, take, Some, refl, sym, ap, subst, ◌∙◌, arith, inl, inr, append_assoc, length-append, cases_Bool, append-nil, take-append_seam, Read, ends_at_end, field_after, fields_after, in_field, is_end, next_record, start_field, start_record, step, Reached, default_config, is_bom, records, strip_bom, State, rest_records, ints, nat_tests}
use Rattle.std.specs.Prelude.{if◌then◌else◌, ◌||◌}
use Rattle.csv.specs.declared.parser.Action.{Action}
use Rattle.csv.specs.declared.parser.State.TheVariants as st
use Rattle.byte_streams.proofs.CsvRecords.{rest-more, rest-none}

-- where a record ends, nothing of another one has begun
abbrev Settles : State × Action → Type 0
Settles q = is_end q.1 ≡ true → ends_at_end q.0 ≡ false

settles-if : (b : Bool) (x y : State × Action) → Settles x → Settles y → Settles (if b then x else y)
settles-if b x y a b' = grind (arith, ints, nat_tests)

after_cr-settles : (b : Bool) → ends_at_end (if b then st.AfterCr else st.StartRecord) ≡ false
after_cr-settles b = grind (arith, ints, nat_tests)

in_field-settles : (c : ℕ) → Settles (in_field default_config c)
in_field-settles c = settles-if (c == 44) _ _ (λ e. cc) (settles-if ((c == 13) || (c == 10)) _ _ (λ e. after_cr-settles (c == 13)) (λ e. cc))

start_field-settles : (c : ℕ) → Settles (start_field default_config c)
start_field-settles c = settles-if (c == 34) _ _ (λ e. cc) (in_field-settles c)

start_record-settles : (c : ℕ) → Settles (start_record default_config c)
start_record-settles c = settles-if ((c == 13) || (c == 10)) _ _ (λ e. cc) (start_field-settles c)

end-settles : (s : State) (c : ℕ) → Settles (step default_config s c)
end-settles s c =
    grind (arith, ints, nat_tests, start_record-settles, start_field-settles, in_field-settles, settles-if)

same_read : (q p : Read) → Some q ≡ Some p → q ≡ p
same_read q p e = cc

empty-front : (zs ws : List ℕ) → [] ≡ zs ++ ws → zs ≡ []
empty-front [] ws e = refl
empty-front (z ∷ zs) ws e = cc

-- a record is read of a front of the text, with any front of what comes behind
record IsFrontRead (s : State) (f : List (List ℕ)) (d xs : List ℕ) (p : Read) : Type 0 where
  front : List ℕ
  joins : xs ≡ front ++ p.2
  reads : (zs ws : List ℕ) → p.2 ≡ zs ++ ws → next_record default_config s f d (front ++ zs) ≡ Some (p.0, p.1, zs)
  settled : ends_at_end p.1 ≡ false

front-read : (s : State) (f : List (List ℕ)) (d xs : List ℕ) (p : Read) → next_record default_config s f d xs ≡ Some p → IsFrontRead s f d xs p
unfolding next_record
front-read s f d [] p e = grind (arith, ints, nat_tests, cases_Bool, ends_at_end, same_read, empty-front)
front-read s f d (c ∷ xs) p e = elim (cases_Bool (is_end (step default_config s c).1)) [
  | inl t ↦ subst (λ (q : Read). IsFrontRead s f d (c ∷ xs) q) (same_read (fields_after (step default_config s c).1 f d, (step default_config s c).0, xs) p (rw t at e)) (record {
    front = c ∷ [];
    joins = refl;
    reads = λ zs ws h. rw t refl;
    settled = end-settles s c t;
  })
  | inr t ↦
      let more = front-read (step default_config s c).0 (fields_after (step default_config s c).1 f d) (field_after (step default_config s c).1 c d) xs p (rw t at e) in
      record {
        front = c ∷ more.front;
        joins = ap (λ (rest : List ℕ). c ∷ rest) more.joins;
        reads = λ zs ws h. rw t (more.reads zs ws h);
        settled = more.settled;
      }
]

-- the same of records in turn
record IsFrontReached (s : State) (xs : List ℕ) (rows : List (List (List ℕ))) (s2 : State) (ys : List ℕ) : Type 0 where
  front : List ℕ
  joins : xs ≡ front ++ ys
  reached : (zs ws : List ℕ) → ys ≡ zs ++ ws → Reached default_config s (front ++ zs) rows s2 zs
  settled : ends_at_end s ≡ false → ends_at_end s2 ≡ false

front-reached : (s : State) (xs : List ℕ) (rows : List (List (List ℕ))) (s2 : State) (ys : List ℕ) → Reached default_config s xs rows s2 ys → IsFrontReached s xs rows s2 ys
unfolding Reached
front-reached s xs [] s2 ys h = grind (arith, ints, nat_tests, ends_at_end)
front-reached s xs (r ∷ rs) s2 ys h =
    let (p, next, field, tail) = h in
    let one = front-read s [] [] xs p next in
    let more = front-reached p.1 p.2 rs s2 ys tail in
    record {
      front = one.front ++ more.front;
      joins = one.joins ∙ ap (λ (t : List ℕ). one.front ++ t) more.joins ∙ sym (append_assoc one.front more.front ys);
      reached = λ zs ws e. (
        (p.0, p.1, more.front ++ zs),
        rw (append_assoc one.front more.front zs) (one.reads (more.front ++ zs) ws (more.joins ∙ ap (λ (t : List ℕ). more.front ++ t) e ∙ sym (append_assoc more.front zs ws))),
        field,
        more.reached zs ws e,
      );
      settled = λ a. more.settled one.settled;
    }

-- the records that were reached are the first of those left
pub rest-all : (s s2 : State) (y z : List ℕ) (rows : List (List (List ℕ))) → Reached default_config s y rows s2 z → rest_records s y ≡ rows ++ rest_records s2 z
unfolding Reached
rest-all s s2 y z [] h = rw (h.0, h.1) refl
rest-all s s2 y z (r ∷ rs) h =
    let (p, next, field, tail) = h in
    rest-more s p.1 y p.2 p.0 next ∙ rw (field, rest-all p.1 s2 p.2 z rs tail) refl

none-next : (s : State) → ends_at_end s ≡ false → rest_records s [] ≡ []
unfolding next_record
none-next s e = rest-none s [] (rw e refl)

-- the records that were reached are those of a front of the text
pub front-records : (xs ys : List ℕ) (rows : List (List (List ℕ))) (s : State) → Reached default_config st.StartRecord xs rows s ys
    → (front : List ℕ) × (xs ≡ front ++ ys) × (records default_config front ≡ rows)
front-records xs ys rows s h =
    let of_front = front-reached st.StartRecord xs rows s ys h in
    let all = rest-all st.StartRecord s (of_front.front ++ []) [] rows (of_front.reached [] ys refl) in
    grind (arith, ints, nat_tests, none-next, append-nil)

-- a front of a text without a byte order mark has none
plain-front : (front ys : List ℕ) → strip_bom (front ++ ys) ≡ front ++ ys → strip_bom front ≡ front
unfolding strip_bom
plain-front [] ys e = refl
plain-front (a ∷ []) ys e = refl
plain-front (a ∷ b ∷ []) ys e = refl
plain-front (a ∷ b ∷ c ∷ front) ys e = elim (cases_Bool (is_bom a b c)) [
  | inl t ↦ let short = ap length (rw t at e) in absurd (omega arith)
  | inr t ↦ rw t refl
]

-- a front of what stands behind a byte order mark, if there is one, stands so in a front of the text
pub strip_bom-front : (bytes front ys : List ℕ) → strip_bom bytes ≡ front ++ ys → (n : ℕ) × (n + length ys ≡ length bytes) × (strip_bom (take n bytes) ≡ front)
unfolding strip_bom
strip_bom-front bytes front ys e = by bytes e
  where
    plain : (xs : List ℕ) → xs ≡ front ++ ys → strip_bom xs ≡ xs → (n : ℕ) × (n + length ys ≡ length xs) × (strip_bom (take n xs) ≡ front)
    plain xs h same = (
      length front,
      rw h (sym (length-append front ys)),
      rw (h, take-append_seam front ys) (plain-front front ys (rw h at same)),
    )

    by : (xs : List ℕ) → strip_bom xs ≡ front ++ ys → (n : ℕ) × (n + length ys ≡ length xs) × (strip_bom (take n xs) ≡ front)
    by [] h = plain [] h refl
    by (a ∷ []) h = plain (a ∷ []) h refl
    by (a ∷ b ∷ []) h = plain (a ∷ b ∷ []) h refl
    by (a ∷ b ∷ c ∷ rest) h = elim (cases_Bool (is_bom a b c)) [
      | inl t ↦
          let here : rest ≡ front ++ ys = rw t at h in
          let size = length-append front ys in
          (suc (suc (suc (length front))), rw here (omega arith), rw (t, here) (take-append_seam front ys))
      | inr t ↦ plain (a ∷ b ∷ c ∷ rest) (rw t at h) (rw t refl)
    ]

-- a byte order mark has three bytes
pub length-strip_bom : (bytes : List ℕ) → length bytes ≤ 3 + length (strip_bom bytes)
unfolding strip_bom
length-strip_bom bytes = grind (arith, ints, nat_tests, cases_Bool, is_bom)
