-- An object's text reads back as the object, where its keys ascend.
use Rattle.json_bodies.proofs.Names.{◌≡◌, ◌<◌, ◌≤◌, ◌^◌, ◌&&◌, ℕ, suc, List, [], ◌∷◌, ◌++◌, Bool, true, Option, Some, refl, ap, ◌∙◌, sym, append_assoc, append-nil, arith, Ordering, and_parts, Data, null, number, string, put, item, array, member, object, compact_text, outline, items_outline, members_outline, print-outline, items_of, members_of, object_of, array_of, or_null, count_value, ints, nat_tests}
use Rattle.std.specs.Option.{option_map, option_and_then}
use Rattle.std.specs.Ordering.{is_gt, nat_cmp, match_ordering}
use Rattle.std.specs.Cmp.Lexicographic.{slice_cmp}
use Rattle.json.specs.Json as json
use Rattle.json.specs.Lex.{tokens}
use Rattle.json.specs.Tree as tree
use Rattle.json.proofs.Printed.Trees.{value-json_tokens, ArePrintable-json_tokens}
use Rattle.json.proofs.Printed.Tokens.{tokens-print}
use Rattle.json.proofs.Printed.Decimals.{IsNumber-decimal}
use Rattle.serde_json.specs.Read.{read, max_depth, of_json, of_items, of_members}
use Rattle.serde_json.proofs.Numbers.{number_of-decimal}

-- the value reads as itself, its numbers are numbers, and it nests no deeper
pub record Reads (n : ℕ) (d : Data) : Type 0 where
  pub same : of_json (outline d) ≡ Some d
  pub numbers : tree.HasNumbers (outline d)
  pub depth : tree.depth (outline d) ≤ n

pub read-compact_text : (n : ℕ) (d : Data) → n ≤ 127 → Reads n d → read (compact_text d) ≡ Some d
read-compact_text n d shallow r =
    let j = outline d in
    let lexed : tokens (compact_text d) ≡ tree.json_tokens j = ap tokens (sym (print-outline d)) ∙ tokens-print (tree.json_tokens j) (ArePrintable-json_tokens j r.numbers) in
    let deep : tree.depth j ≤ max_depth = omega (arith, r.depth) in
    let parsed : json.value max_depth (tokens (compact_text d)) ≡ Some (j, []) = ap (json.value max_depth) (lexed ∙ sym (append-nil _)) ∙ value-json_tokens j max_depth [] deep in
    ap (λ o. option_and_then of_json (option_and_then (λ p. json.if_last p.0 p.1) o)) parsed ∙ r.same

pub null-reads : (n : ℕ) → Reads n null
null-reads n = record { same = refl; numbers = tt; depth = omega arith }

pub string-reads : (n : ℕ) (s : List ℕ) → Reads n (string s)
string-reads n s = record { same = refl; numbers = tt; depth = omega arith }

pub count-reads : (n k : ℕ) → k < 2 ^ 64 → Reads n (count_value k)
count-reads n k h = record { same = ap (option_map number) (number_of-decimal k h); numbers = IsNumber-decimal k h; depth = omega arith }

pub or_null-reads : {A : Type 0} (n : ℕ) (value : A → Data) (o : Option A) → ((a : A) → Reads n (value a)) → Reads n (or_null value o)
or_null-reads n value o each = grind (arith, ints, nat_tests, null-reads)

-- the key comes after all of these in the order of bytes
abbrev pub is_above : List ℕ → List (List ℕ × Data) → Bool
is_above k [] = true
is_above k (m ∷ ms) = is_gt (slice_cmp nat_cmp k m.0) && is_above k ms

-- each key comes after those before it, the first list being before the second
abbrev pub ascend : List (List ℕ × Data) → List (List ℕ × Data) → Bool
ascend before [] = true
ascend before (m ∷ ms) = is_above m.0 before && ascend (before ++ m ∷ []) ms

abbrev pub AllRead : ℕ → List (List ℕ × Data) → Type 0
AllRead n [] = Unit {0}
AllRead n (m ∷ ms) = Reads n m.1 × AllRead n ms

greater : {A : Type 0} (o : Ordering) (a b c : A) → is_gt o ≡ true → match_ordering o a b c ≡ c
greater o a b c h = grind (arith, ints, nat_tests)

put-above : (k : List ℕ) (d : Data) (before : List (List ℕ × Data)) → is_above k before ≡ true → put k d (members_of before) ≡ members_of (before ++ (k, d) ∷ [])
put-above k d [] h = refl
put-above k d (m ∷ ms) h =
    let (above, more) = and_parts (is_gt (slice_cmp nat_cmp k m.0)) (is_above k ms) h in
    greater (slice_cmp nat_cmp k m.0) _ _ _ above ∙ ap (member m.0 m.1) (put-above k d ms more)

of_members-ascend : (n : ℕ) (ms before : List (List ℕ × Data)) → AllRead n ms → ascend before ms ≡ true → of_members (members_outline (members_of ms)) (members_of before) ≡ Some (members_of (before ++ ms))
of_members-ascend n [] before r h = ap (λ l. Some (members_of l)) (sym (append-nil before))
of_members-ascend n (m ∷ ms) before r h =
    let (above, more) = and_parts (is_above m.0 before) (ascend (before ++ m ∷ []) ms) h in
    grind (arith, ints, nat_tests, of_members, put, put-above, append_assoc, (of_members-ascend n ms (before ++ m ∷ []) r.1 more))

numbers-members : (n : ℕ) (ms : List (List ℕ × Data)) → AllRead n ms → tree.MembersHaveNumbers (members_outline (members_of ms))
numbers-members n [] r = tt
numbers-members n (m ∷ ms) r = (r.0.numbers, numbers-members n ms r.1)

depth-members : (n : ℕ) (ms : List (List ℕ × Data)) → AllRead n ms → tree.members_depth (members_outline (members_of ms)) ≤ n
depth-members n [] r = omega arith
depth-members n (m ∷ ms) r = omega (arith, r.0.depth, depth-members n ms r.1)

pub object-reads : (n : ℕ) (ms : List (List ℕ × Data)) → AllRead n ms → ascend [] ms ≡ true → Reads (suc n) (object_of ms)
object-reads n ms r h =
    let deep = depth-members n ms r in
    record { same = ap (option_map object) (of_members-ascend n ms [] r h); numbers = numbers-members n ms r; depth = omega (arith, deep) }

abbrev pub AllValuesRead : ℕ → List Data → Type 0
AllValuesRead n [] = Unit {0}
AllValuesRead n (d ∷ ds) = Reads n d × AllValuesRead n ds

of_items-values : (n : ℕ) (ds : List Data) → AllValuesRead n ds → of_items (items_outline (items_of ds)) ≡ Some (items_of ds)
of_items-values n [] r = refl
of_items-values n (d ∷ ds) r =
    ap (option_and_then (λ e. option_map (item e) (of_items (items_outline (items_of ds))))) r.0.same
    ∙ ap (option_map (item d)) (of_items-values n ds r.1)

numbers-items : (n : ℕ) (ds : List Data) → AllValuesRead n ds → tree.ItemsHaveNumbers (items_outline (items_of ds))
numbers-items n [] r = tt
numbers-items n (d ∷ ds) r = (r.0.numbers, numbers-items n ds r.1)

depth-items : (n : ℕ) (ds : List Data) → AllValuesRead n ds → tree.items_depth (items_outline (items_of ds)) ≤ n
depth-items n [] r = omega arith
depth-items n (d ∷ ds) r = omega (arith, r.0.depth, depth-items n ds r.1)

pub array-reads : (n : ℕ) (ds : List Data) → AllValuesRead n ds → Reads (suc n) (array_of ds)
array-reads n ds r = grind (arith, ints, nat_tests, depth-items, option_map, array, of_items-values, numbers-items)
