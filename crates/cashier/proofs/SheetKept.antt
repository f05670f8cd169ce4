-- What a crash leaves of a sheet.
use Rattle.cashier.proofs.Names.{◌≡◌, ◌∙◌, ◌<◌, ◌≤◌, ◌++◌, ◌∷◌, ◌⊎◌, nat_lt, ℕ, Bool, true, false, List, [], length, take, Option, Result, Err, IfSome, inl, inr, refl, ap, subst, arith, IsOk, Appends-trans, nat_tests, append-nil, Appends, concat, MAX_FILE_BYTES, Refusal, TooLarge, Output, Firm, Seen, LeavesAlone, IsMade, MayLeave, Steps, firm_step, Heard, is_fault_body, is_fault_reply, Body, Json, Refused, Reply, leave-as, heard_of, IsBehindLines, IsWhole, LargeEnds, LinesAreKept, TellsLine, body_line, firm_from, lines_from, ran_by, record_step, records_run, refusal_line, reply_line, sheet_records, SheetEnd, ints}
use Rattle.trust_desk.specs.declared.requests.Body.TheVariants.{Text}
use Rattle.trust_desk.proofs.MadeRows.{plain-step}
use Rattle.cashier.specs.Sent.{IsSent}
use Rattle.cashier.specs.declared.sheet.SheetEnd.TheVariants as end
use Rattle.cashier.proofs.SheetFacts.{SoFar, err-same, goes-body, steps-plain, stop-body}

-- One record.

-- a record that lets the run go on was answered by no fault
pub goes-plain : (reply : Reply) (ran : Result Bool SheetEnd) → ran ≡ ran_by reply.body → IsOk ran → is_fault_reply reply ≡ false
goes-plain reply ran goes ok = grind (arith, ints, nat_tests, goes-body)

-- what is told of a record that lets the run go on
pub told-as : (day : ℕ) (first last : Firm) (old new : Seen) (h : Heard) (reply : Reply) (ran : Result Bool SheetEnd) → ran ≡ ran_by reply.body
    → old.clean → (new.clean → Steps day first h reply last)
    → MayLeave (is_fault_reply reply ≡ false) (IsMade day first h) first (firm_step day first h).firm old new
    → MayLeave (IsOk ran) (IsMade day first h) first last old new
told-as day first last old new h reply ran goes served step may =
    grind (arith, ints, nat_tests, leave-as, goes-plain, plain-step)

-- What stands behind whole lines.

-- a reply that ends a run is a refusal's
ends-refused : (reply : Reply) (b : Body) (e : SheetEnd) → reply.body ≡ b → Err e ≡ ran_by b → (r : Refusal) × (reply_line reply ≡ refusal_line r)
ends-refused reply (Json text) e is ended = cc
ends-refused reply (Text text) e is ended = cc
ends-refused reply (Refused r) e is ended = (r, ap (body_line reply.status) is)

-- and so is one that tells of a fault
fault-refused : (reply : Reply) (b : Body) → reply.body ≡ b → is_fault_body b ≡ true → (r : Refusal) × (reply_line reply ≡ refusal_line r)
fault-refused reply (Json text) is fault = absurd (cc)
fault-refused reply (Text text) is fault = absurd (cc)
fault-refused reply (Refused r) is fault = (r, ap (body_line reply.status) is)

-- what is behind the lines of the records before one that ended the run
behind-of : (day : ℕ) (firm : Firm) (here : List (List ℕ)) (rest : List (List (List ℕ))) (old new : Option (List ℕ)) (e : SheetEnd) → TellsLine day firm here old new (Err e)
    → (more : List ℕ) × IsBehindLines day firm (here ∷ rest) more × Appends old new more
behind-of day firm here rest old new e told = sent told.reply told.says told.sent
  where
    cut : (reply : Reply) (n : ℕ) → n < length (reply_line reply) → (is_fault_reply reply ≡ true) ⊎ (reply ≡ (record_step day firm here).reply) → IsBehindLines day firm (here ∷ rest) (take n (reply_line reply))
    cut reply n less (inl fault) =
        let (r, line) = fault-refused reply reply.body refl fault in
        inr (inl (r, inr (n, subst (λ (text : List ℕ). n < length text) line less, ap (take n) line)))
    cut reply n less (inr is) = inr (inr (n, subst (λ (x : Reply). n < length (reply_line x)) is less, ap (λ (x : Reply). take n (reply_line x)) is))

    sent : (reply : Reply) → (is_fault_reply reply ≡ true) ⊎ (reply ≡ (record_step day firm here).reply) → IsSent (reply_line reply) (ran_by reply.body) (Err end.WriteFault) old new (Err e)
        → (more : List ℕ) × IsBehindLines day firm (here ∷ rest) more × Appends old new more
    sent reply says (inl (ended, wrote)) =
        let (r, line) = ends-refused reply reply.body e refl ended in
        (reply_line reply, inr (inl (r, inl line)), wrote)
    sent reply says (inr (failed, (n, less, wrote))) = (take n (reply_line reply), cut reply n less says, wrote)

-- a record that ends a run was not the last of a whole one
not-whole : (reply : Reply) (old new : Option (List ℕ)) (e : SheetEnd) → IsSent (reply_line reply) (ran_by reply.body) (Err end.WriteFault) old new (Err e) → IsWhole e → ⊥
not-whole reply old new e x4 w = grind (arith, ints, nat_tests, stop-body, err-same)

-- the reply to a record is that of the firm's step, or tells of a fault
pub reply-says : {Makes : Firm → Type 0} (day : ℕ) (first last : Firm) (old new : Seen) (h : Heard) (reply : Reply)
    → old.clean → (new.clean → Steps day first h reply last) → MayLeave (is_fault_reply reply ≡ false) Makes first (firm_step day first h).firm old new
    → (is_fault_reply reply ≡ true) ⊎ (reply ≡ (firm_step day first h).reply)
reply-says day first last old new h reply served step may =
    grind (arith, ints, nat_tests, is_fault_reply, firm_step, steps-plain)

-- A run of records.

abbrev GoesOn : Result Bool SheetEnd → Type 0
GoesOn ran = IsOk ran

-- so far the store serves, and a settled book is settled
abbrev pub IsGoing : Seen → Seen → Type 0
IsGoing old new = new.clean × (LeavesAlone old.firm old.leaves → LeavesAlone new.firm new.leaves)

pub going-more : {done : Type 0} {Makes : Firm → Type 0} (old mid new : Seen) → done → IsGoing old mid
    → MayLeave done Makes mid.firm new.firm mid new → IsGoing old new
going-more old mid new is going one = (one.serves going.0 is, λ alone. one.settled is (going.1 alone))

-- where it ends between two records
pub kept-here : (day : ℕ) (all past later : List (List (List ℕ))) (old new : Seen) (output : Output) (off : Bool) (ended : SheetEnd) → past ++ later ≡ all → (IsWhole ended → later ≡ [])
    → SoFar day old.firm past new.firm output.before output.after off → IsGoing old new
    → LinesAreKept day all output ended old new
kept-here day all past later old new output off ended parts none x11 going =
    grind (arith, ints, nat_tests, append-nil, concat, lines_from)

-- where a record ends it
pub kept-stopped : (day : ℕ) (all past left rest : List (List (List ℕ))) (r : List (List ℕ)) (old mid new : Seen) (output : Output) (so_far : Option (List ℕ)) (off : Bool) (ended : SheetEnd) → past ++ left ≡ all → left ≡ r ∷ rest
    → SoFar day old.firm past mid.firm output.before so_far off → IsGoing old mid
    → MayLeave (GoesOn (Err ended)) (IsMade day mid.firm (heard_of r)) mid.firm new.firm mid new → TellsLine day mid.firm r so_far output.after (Err ended)
    → LinesAreKept day all output ended old new
kept-stopped day all past left rest r old mid new output so_far off ended parts first (written, is, was) going one line =
    let here = subst (λ (f : Firm). TellsLine day f r so_far output.after (Err ended)) is line in
    let (more, behind, wrote) = behind-of day (firm_from day old.firm past) r rest so_far output.after ended here in
    record {
      past = past;
      later = r ∷ rest;
      parts = rw first at parts;
      more = more;
      behind = behind;
      written = Appends-trans output.before so_far output.after _ more written wrote;
      left = λ alone found may. elim (one.crash found may) [
        | inl before ↦ inl (going.1 alone found before ∙ is)
        | inr made ↦ inr (subst (λ (f : Firm). IsMade day f (heard_of r) found) is made)
      ];
      whole = λ w. absurd (not-whole line.reply so_far output.after ended line.sent w);
    }

-- where none was run
pub kept-none : (day : ℕ) (all : List (List (List ℕ))) (old : Seen) (output : Output) (ended : SheetEnd) → (IsWhole ended → ⊥) → Appends output.before output.after []
    → LinesAreKept day all output ended old old
kept-none day all old output ended never nothing = record {
  past = [];
  later = all;
  parts = refl;
  more = [];
  behind = inl refl;
  written = nothing;
  left = λ alone found may. inl (alone found may);
  whole = λ w. absurd (never w);
}

pub kept-large : (day : ℕ) (old : Seen) (output : Output) (ended : SheetEnd) → old.clean → LargeEnds old.firm old.firm output.before output.after ended → LinesAreKept day [] output ended old old
kept-large day old output end.Done served large = absurd large
kept-large day old output end.Refused served (wrote, same) = record { past = []; later = []; parts = refl; more = refusal_line TooLarge; behind = inr (inl (TooLarge, inl refl)); written = wrote; left = λ alone found may. inl (alone found may); whole = λ w. (refl, served) }
kept-large day old output end.ReadFault served (wrote, same) = record { past = []; later = []; parts = refl; more = []; behind = inl refl; written = wrote; left = λ alone found may. inl (alone found may); whole = λ w. absurd w }
kept-large day old output end.WriteFault served (n, less, wrote, same) = record { past = []; later = []; parts = refl; more = take n (refusal_line TooLarge); behind = inr (inl (TooLarge, inr (n, less, refl))); written = wrote; left = λ alone found may. inl (alone found may); whole = λ w. absurd w }
kept-large day old output end.Store served large = absurd large
kept-large day old output end.NoMemory served (wrote, same) = record { past = []; later = []; parts = refl; more = []; behind = inl refl; written = wrote; left = λ alone found may. inl (alone found may); whole = λ w. absurd w }

-- A sheet, of bytes that are known or not.

pub known-run : (known : Option (List ℕ)) (items : List ℕ) (Kept : List (List (List ℕ)) → Type 0) → IfSome known (λ all. (items ≡ all) × (length all ≤ MAX_FILE_BYTES)) → Kept (sheet_records items) → IfSome known (λ bytes. Kept (records_run bytes))
known-run known items x2 read kept = grind (arith, ints, nat_tests, nat_lt, length)

pub known-large : (known : Option (List ℕ)) (Kept : List (List (List ℕ)) → Type 0) → IfSome known (λ all. MAX_FILE_BYTES < length all) → Kept [] → IfSome known (λ bytes. Kept (records_run bytes))
known-large known x1 long kept = grind (arith, ints, nat_tests, nat_lt, length)

pub known-none : (known : Option (List ℕ)) (Kept : List (List (List ℕ)) → Type 0) → ((all : List (List (List ℕ))) → Kept all) → IfSome known (λ bytes. Kept (records_run bytes))
known-none known x1 kept = grind (arith, ints, nat_tests, records_run)
