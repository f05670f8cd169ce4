-- What the whole text makes of an empty database.
use Rattle.sql_making.proofs.Names.{◌≡◌, inl, inr, ℕ, zero, suc, List, [], ◌∷◌, length, Some, Ok, sym, subst, arith, Ghosts, Schema, Step, RunInTurn, ExecutesAllInside, Held, state, Made, book_schema, schema_text, version_part, after_act, no_schema, IsBlank, IsNewBook}
use Rattle.sql_making.proofs.Creates.{Creates, creates}
use Rattle.sql_making.proofs.Stages.{book_creates, matter_creates, seat_creates, entry_creates, journal_creates, firm_line_creates, exception_creates, balance_creates, act_creates}
use Rattle.sql_making.proofs.Parts.{IsFirst, book_first, matter_first, seat_first, entry_first, journal_first, firm_line_first, exception_first, balance_first, act_first, version_first}
use Rattle.sql_making.proofs.VersionRow.{adds_version}

module _ {S : Type 0} (g : Ghosts S) (new : Held S) where
  abbrev pub Turns : List ℕ → Held S → Type 0
  Turns text old = (most : ℕ) × RunInTurn g (Some 0) most text old new (Ok tt)

  -- the first statement ran, and then the others
  pub turn : (text part rest : List ℕ) (old : Held S) → IsFirst text part rest → Turns text old → (mid : Held S) × (count : ℕ) × Step g part old mid (Ok count) × Turns rest mid
  turn [] part rest old is (most, h) = absurd (omega (arith, is.some))
  turn (b ∷ more) part rest old is (zero, h) = absurd h
  turn (b ∷ more) part rest old is (suc most, inl failed) = absurd (let e = failed.1 in cc)
  turn (b ∷ more) part rest old is (suc most, inr ran) =
      (ran.0, ran.1, subst (λ p. Step g p old ran.0 (Ok ran.1)) is.front ran.2, (most, subst (λ r. RunInTurn g (Some 0) most r ran.0 new (Ok tt)) is.after ran.3))

  -- the text is left to run on a database that has this schema and no row
  record Left (text : List ℕ) (schema : Schema) : Type 0 where
    at : Held S
    has : (state g at).now.schema ≡ schema
    blank : IsBlank (state g at).now
    turns : Turns text at

  on : {text part rest : List ℕ} {schema after : Schema} → Creates schema part after → IsFirst text part rest → Left text schema → Left rest after
  on {text} {part} {rest} {schema} {after} it is l =
      let ran = turn text part rest l.at is l.turns in
      let done = creates schema part after it (state g l.at) (state g ran.0) ran.1 l.has l.blank ran.2.runs in
      record { at = ran.0; has = done.0; blank = done.1; turns = ran.3 }

  ends : Left after_act (book_schema Made) → IsNewBook (state g new).now
  ends l =
      let ran = turn after_act version_part [] l.at version_first l.turns in
      let made = adds_version (state g l.at) (state g ran.0) ran.1 l.has l.blank ran.2.runs in
      subst (λ (h : Held S). IsNewBook (state g h).now) (sym ran.3.1.1) made

  pub makes_book : (old : Held S) → (state g old).now.schema ≡ no_schema → ExecutesAllInside g 0 schema_text old new (Ok tt) → IsNewBook (state g new).now
  unfolding ExecutesAllInside
  makes_book old none h =
      let all : Left schema_text no_schema = record { at = old; has = none; blank = subst (λ s. IsBlank (record { schema = s; trees = (state g old).now.trees })) (sym none) tt; turns = (length schema_text, h) } in
      ends (on act_creates act_first (on balance_creates balance_first (on exception_creates exception_first (on firm_line_creates firm_line_first (on journal_creates journal_first (on entry_creates entry_first (on seat_creates seat_first (on matter_creates matter_first (on book_creates book_first all)))))))))
