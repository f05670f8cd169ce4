-- What a list says of a matter, what waits in a matter, and the body of all its entries.
use Rattle.std.specs.Prelude.{ℕ, ◌+◌, Bool, false, not, ◌&&◌, cond, List, [], ◌∷◌, codes, length, ℤ, pos, ◌+ℤ◌, ◌-ℤ◌, Option}
use Rattle.serde_json.specs.Data.{Data, null, string}
use Rattle.serde_json.specs.Written.{compact_text}
use Rattle.matter_rows.specs.declared.seat.Seat.{Seat}
use Rattle.matter_rows.specs.declared.head.Head.{Head}
use Rattle.matter_rows.specs.declared.payment.Fund.{Fund}
use Rattle.matter_rows.specs.declared.entry.Entry.{Entry}
use Rattle.matter_rows.specs.declared.entry.Entry.TheVariants as entry
use Rattle.matter_rows.specs.Rows.{Rows, closed_on, entry_at, is_proposed_state, is_same_fund, role_in, role_name}
use Rattle.matter_rows.specs.Shares.{fund_no, has_settled}
use Rattle.matter_rows.specs.Balances.{available, fund_left, held, left_in, left_of, pending, total_of}
use Rattle.matter_rows.specs.declared.act.Caller.{Caller}
use Rattle.matter_rows.specs.declared.act.Caller.TheVariants as caller
use Rattle.matter_parts.specs.declared.kept.Kept.{Kept}
use Rattle.trust_matter.specs.Step.{natural}
use Rattle.json_bodies.specs.Bodies.{Sums, client_value, entry_object, opened_value, sums_of}
use Rattle.json_bodies.specs.Json.{array_of, count_value, day_value, matter_value, object_of, or_null, sum_value}

-- ---- a matter in the list of a caller's matters

-- what the caller is in the matter; null for a person without a seat
abbrev pub role_value : Caller → List Seat → Data
role_value caller.Cashier seats = string (codes "cashier")
role_value (caller.Person p) seats = or_null (λ r. string (role_name r)) (role_in seats p)

-- a matter with this number and head, this role of the caller, these counts of entries and of payments proposed or
-- issued, and these sums
abbrev pub listed_members : ℕ → Option Head → Data → ℕ → ℕ → Sums → List (List ℕ × Data)
listed_members m head role entries pending sums =
    (codes "available", sum_value sums.available)
    ∷ (codes "claims", sum_value sums.claims)
    ∷ (codes "client", client_value head)
    ∷ (codes "closed", or_null day_value (closed_on head))
    ∷ (codes "disputed", sum_value sums.disputed)
    ∷ (codes "entries", count_value entries)
    ∷ (codes "fees", sum_value sums.fees)
    ∷ (codes "held", sum_value sums.held)
    ∷ (codes "ledger", sum_value (sums.total +ℤ sums.held))
    ∷ (codes "matter", matter_value m)
    ∷ (codes "opened", opened_value head)
    ∷ (codes "pending", count_value pending)
    ∷ (codes "role", role)
    ∷ (codes "total", sum_value sums.total)
    ∷ []

-- what a caller's list says of the matter
abbrev pub listed_object : Caller → ℕ → Rows → Data
listed_object caller m rows =
    object_of (listed_members m rows.head (role_value caller rows.seats) (length rows.entries)
    (natural (pending rows.entries)) (sums_of rows.entries))

-- ---- what waits for a person's decision

-- a proposed payment, or a claim that is not settled
abbrev pub waits : Entry → Bool
waits (entry.Deposit d) = false
waits (entry.Payment p) = is_proposed_state p.state
waits (entry.Fee f) = false
waits (entry.Claim c) = not (has_settled c.state)

-- what an entry proposes to pay from a fund
abbrev pub proposed_on : Fund → Entry → ℤ
proposed_on fund (entry.Deposit d) = pos 0
proposed_on fund (entry.Payment p) =
    cond (is_proposed_state p.state && is_same_fund p.fund fund) (pos p.amount) (pos 0)
proposed_on fund (entry.Fee f) = pos 0
proposed_on fund (entry.Claim c) = pos 0

-- what is left of a fund now
abbrev pub left_now : List Entry → Fund → ℤ
left_now es fund = fund_left fund (available es) (left_in es (fund_no fund) (entry_at es (fund_no fund)))

-- what is left of the fund of a payment now; null for any other entry
abbrev pub fund_left_value : List Entry → Entry → Data
fund_left_value es (entry.Deposit d) = null
fund_left_value es (entry.Payment p) = sum_value (left_now es p.fund)
fund_left_value es (entry.Fee f) = null
fund_left_value es (entry.Claim c) = null

-- what other payments are proposed from the fund of a proposed payment; null for any other entry
abbrev pub others_value : List Entry → Entry → Data
others_value es (entry.Deposit d) = null
others_value es (entry.Payment p) = sum_value (total_of (proposed_on p.fund) es -ℤ pos p.amount)
others_value es (entry.Fee f) = null
others_value es (entry.Claim c) = null

-- entry n, which waits
abbrev pub waiting_members : ℕ → Rows → ℕ → Entry → List (List ℕ × Data)
waiting_members m rows n e =
    (codes "client", client_value rows.head)
    ∷ (codes "entry", entry_object m n e (left_of rows.entries n e))
    ∷ (codes "held", sum_value (held rows.entries))
    ∷ (codes "left", fund_left_value rows.entries e)
    ∷ (codes "others", others_value rows.entries e)
    ∷ []

abbrev pub waiting_object : ℕ → Rows → ℕ → Entry → Data
waiting_object m rows n e = object_of (waiting_members m rows n e)

-- an object for each of these that waits; they are the entries from number n on
abbrev pub waiting_from : ℕ → Rows → ℕ → List Entry → List Data
waiting_from m rows n [] = []
waiting_from m rows n (e ∷ es) =
    cond (waits e) (waiting_object m rows n e ∷ waiting_from m rows (n + 1) es) (waiting_from m rows (n + 1) es)

-- an object for each entry that waits, by number
abbrev pub waiting_in : ℕ → Rows → List Data
waiting_in m rows = waiting_from m rows 1 rows.entries

-- ---- all entries of a matter

-- an object for each of these; they are the entries of `all` from number n on
abbrev pub entries_from : ℕ → List Entry → ℕ → List Entry → List Data
entries_from m all n [] = []
entries_from m all n (e ∷ es) = entry_object m n e (left_of all n e) ∷ entries_from m all (n + 1) es

-- a loaded entry
abbrev pub kept_object : ℕ → Kept → Data
kept_object m k = entry_object m k.number k.entry (pos k.left)

abbrev pub entries_object : ℕ → Rows → Data
entries_object m rows = object_of ((codes "entries", array_of (entries_from m rows.entries 1 rows.entries)) ∷ [])

-- the body of all entries of matter m, in the order of their numbers
abbrev pub entries_body : ℕ → Rows → List ℕ
entries_body m rows = compact_text (entries_object m rows)
