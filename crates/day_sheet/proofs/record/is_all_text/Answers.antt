use Rattle.day_sheet.proofs.Names.{◌≡◌, ◌∙◌, ◌∷◌, ◌+◌, ◌&&◌, zero, suc, ◌<◌, Bool, List, ℕ, [], length, take, get_or, unwrap_or, refl, sym, ap, arith, list_all, is_utf8, field_at, fields_of}
use Rattle.std.proofs.Math.Seq.{take-length}
use Rattle.std.proofs.lemmas.List.Folds.{list_all_more}
use Rattle.day_sheet.proofs.record.is_all_text.Goals as goal

field-text : (fields : List (List ℕ)) (i : ℕ) → unwrap_or (field_at fields i) [] ≡ get_or fields i []
unfolding field_at
field-text [] i = refl
field-text (f ∷ fs) zero = refl
field-text (f ∷ fs) (suc i) = field-text fs i

-- all of the first fields and one more
all-more : (fields : List (List ℕ)) (i : ℕ) (so_far here : Bool) (text : List ℕ) → i < length fields → so_far ≡ list_all is_utf8 (take i fields)
    → text ≡ unwrap_or (field_at fields i) [] → here ≡ is_utf8 text → (so_far && here) ≡ list_all is_utf8 (take (i + 1) fields)
all-more fields i so_far here text less so at h =
    rw (so, h, at, field-text fields i) (sym (list_all_more is_utf8 fields i [] less))

all-of : (fields : List (List ℕ)) (i : ℕ) → i ≡ length fields → list_all is_utf8 (take i fields) ≡ list_all is_utf8 fields
all-of fields i e = ap (λ (n : ℕ). list_all is_utf8 (take n fields)) e ∙ ap (list_all is_utf8) (take-length fields)

pub loop-i-init : goal.loop-i-init
loop-i-init c = refl

pub loop-i-preserved : goal.loop-i-preserved
loop-i-preserved c =
    let size = c.len-i-end.ensures in
    let less = c.loop-i-test.true in
    all-more (fields_of c.args.row.now) c.loop-i.i _ _ c.field_bytes.result.now (omega arith) c.loop-i.invariant c.field_bytes.ensures c.is_text-is_text_so_far.ensures

pub returns : goal.returns
returns c =
    let size = c.len-i-end.ensures in
    let at_end = c.loop-i-test.false in
    let within = c.loop-i.auto.i-end in
    c.loop-i.invariant ∙ all-of (fields_of c.args.row.now) c.loop-i.i (omega arith)
