-- The bodies read back as their objects.
use Rattle.json_bodies.proofs.Names.{◌≡◌, ℕ, ℤ, Bool, List, [], ◌∷◌, Some, map, length, refl, rules, true, arith, Data, string, compact_text, Seat, array_of, object_of, seat_object, role_name, ints, nat_tests}
use Rattle.serde_json.specs.Read.{read}
use Rattle.std.specs.Prelude.{codes, not, ◌+◌}
use Rattle.serde_json.specs.Data.{boolean}
use Rattle.matter_rows.specs.declared.head.Holder.{Holder}
use Rattle.matter_rows.specs.declared.claim.Against.{Against}
use Rattle.json_bodies.specs.Bodies.{entry_object, holder_value, purged_on, purge_members, matter_members, sums_of, receipt_members, import_members, claim_left_value}
use Rattle.matter_rows.specs.declared.entry.Entry.{Entry}
use Rattle.matter_rows.specs.Balances.{left_of}
use Rattle.matter_rows.specs.declared.act.Act.{Act}
use Rattle.trail_laws.specs.Signed.{begins_with_opening}
use Rattle.json_bodies.specs.Acts.{act_object}
use Rattle.json_bodies.specs.Listed.{entries_from}
use Rattle.json_bodies.specs.BodyLaws.{PurgeReadsBack, MatterReadsBack, ReceiptReadsBack, EntryReadsBack, EntriesReadBack, ActsReadBack, ImportReadsBack}
use Rattle.json_bodies.proofs.ReadBack.{Reads, AllRead, ascend, AllValuesRead, read-compact_text, null-reads, string-reads, count-reads, or_null-reads, object-reads, array-reads}

seat-reads : (s : Seat) → Reads 1 (seat_object s)
seat-reads s = grind (arith, ints, nat_tests, codes, string, role_name, object-reads, string-reads)

seats-read : (ss : List Seat) → AllValuesRead 1 (map seat_object ss)
seats-read [] = tt
seats-read (s ∷ ss) = (seat-reads s, seats-read ss)

-- what is read of an object whose keys ascend, and whose values are no deeper than a list of seats
body-reads : (ms : List (List ℕ × Data)) → AllRead 2 ms → ascend [] ms ≡ true → read (compact_text (object_of ms)) ≡ Some (object_of ms)
body-reads ms r h = read-compact_text 3 _ (omega arith) (object-reads 2 ms r h)

claim_left-reads : (n : ℕ) (a : Against) (left : ℤ) → Reads n (claim_left_value a left)
claim_left-reads n a left = grind (arith, ints, nat_tests, string-reads, null-reads)

pub receipt-reads : ReceiptReadsBack
receipt-reads m n x2 = grind (arith, ints, nat_tests, body-reads, receipt_members, string-reads, or_null-reads)

pub entry-reads : EntryReadsBack
entry-reads m n x2 left = grind (arith, ints, nat_tests, body-reads, string-reads, or_null-reads, claim_left-reads)

entry_object-reads : (m n : ℕ) (e : Entry) (left : ℤ) → Reads 1 (entry_object m n e left)
entry_object-reads m n e left = grind (arith, ints, nat_tests, codes, object-reads, string-reads, or_null-reads, claim_left-reads)

entries-read : (m : ℕ) (all : List Entry) (n : ℕ) (es : List Entry) → AllValuesRead 1 (entries_from m all n es)
entries-read m all n [] = tt
entries-read m all n (e ∷ es) = (entry_object-reads m n e (left_of all n e), entries-read m all (n + 1) es)

pub all-entries-read : EntriesReadBack
all-entries-read m rows =
    let entries : Reads 2 (array_of (entries_from m rows.entries 1 rows.entries)) = array-reads 1 (entries_from m rows.entries 1 rows.entries) (entries-read m rows.entries 1 rows.entries) in
    body-reads ((codes "entries", array_of (entries_from m rows.entries 1 rows.entries)) ∷ []) (entries, tt) refl

boolean-reads : (n : ℕ) (b : Bool) → Reads n (boolean b)
boolean-reads n b = record { same = refl; numbers = tt; depth = omega arith }

act-reads : (act : Act) → Reads 1 (act_object act)
act-reads act = grind (arith, ints, nat_tests, codes, object-reads, string-reads, or_null-reads)

each-act-reads : (acts : List Act) → AllValuesRead 1 (map act_object acts)
each-act-reads [] = tt
each-act-reads (act ∷ acts) = (act-reads act, each-act-reads acts)

pub all-acts-read : ActsReadBack
all-acts-read acts =
    let told : Reads 2 (array_of (map act_object acts)) = array-reads 1 (map act_object acts) (each-act-reads acts) in
    let earlier = not (begins_with_opening acts) in
    body-reads ((codes "acts", array_of (map act_object acts)) ∷ (codes "earlier", boolean earlier) ∷ [])
    (told, (boolean-reads 2 earlier, tt)) refl

pub import-reads : ImportReadsBack
import-reads applied exceptions repeated statement unreadable a e r u =
    body-reads (import_members applied exceptions repeated statement unreadable)
    (search (rules, string-reads, count-reads, or_null-reads)) refl

-- whose it is
holder-reads : (n : ℕ) (o : Holder) → Reads n (holder_value o)
holder-reads n o = grind (arith, ints, nat_tests, string-reads)

pub purge-reads : PurgeReadsBack
purge-reads m rows =
    body-reads (purge_members m (purged_on rows.head)) (search (rules, string-reads, or_null-reads)) refl

pub matter-reads : MatterReadsBack
matter-reads m rows few =
    let seats : Reads 2 (array_of (map seat_object rows.seats)) = array-reads 1 (map seat_object rows.seats) (seats-read rows.seats) in
    body-reads (matter_members m rows.head rows.seats (length rows.entries) (sums_of rows.entries))
    (search (rules, string-reads, holder-reads, count-reads, or_null-reads)) refl

-- what the law of the bodies says
pub ruleset bodies_read = (matter-reads, purge-reads, receipt-reads, entry-reads, all-entries-read, all-acts-read, import-reads)
