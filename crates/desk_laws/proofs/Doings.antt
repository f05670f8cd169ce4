-- An ask that makes an entry, and a line that was applied, are repeats after all that comes to their matter.
use Rattle.desk_laws.proofs.Names.{◌≡◌, ℕ, List, [], ◌∷◌, ◌++◌, None, true, false, refl, subst, sym, IsSome, BankLine, Rows, is_purged, Asked, facts_of, is_repeat, number_made, refusal, rows_after, Doing, AnAsk, ALine, all_after, IsSameLine, ask-repeat, line-repeat, line_on, rows_after_line, IsApplied, Own, OwnAsk, OwnActs, OwnRefusal, OwnLine, solo_rows}
use Rattle.trust_matter.specs.declared.line_verdict.LineEffect.TheVariants as told

-- what comes to a matter, as doings of its own machine
abbrev doing_of : Own → List Doing
doing_of (OwnAsk a) = AnAsk a ∷ []
doing_of (OwnActs caller day) = []
doing_of (OwnRefusal r) = []
doing_of (OwnLine l day) = ALine l day ∷ []

abbrev doings_of : List Own → List Doing
doings_of [] = []
doings_of (own ∷ owns) = doing_of own ++ doings_of owns

solo-doings : (rows : Rows) (owns : List Own) → solo_rows rows owns ≡ all_after rows (doings_of owns)
solo-doings rows [] = refl
solo-doings rows (OwnAsk a ∷ owns) = solo-doings (rows_after rows a) owns
solo-doings rows (OwnActs caller day ∷ owns) = solo-doings rows owns
solo-doings rows (OwnRefusal r ∷ owns) = solo-doings rows owns
solo-doings rows (OwnLine l day ∷ owns) = solo-doings (rows_after_line rows l day) owns

-- an ask that makes an entry is a repeat after all that comes to its matter, as long as that is not purged
pub asked-later : (rows : Rows) (a again : Asked) (owns : List Own) → IsSome (number_made a.ask) → refusal rows a ≡ None → again.ask ≡ a.ask → is_purged (solo_rows (rows_after rows a) owns).head ≡ false → is_repeat (facts_of (solo_rows (rows_after rows a) owns) again.ask) again ≡ true
asked-later rows a again owns makes accepted same kept =
    let all = solo-doings (rows_after rows a) owns in
    subst (λ (r : Rows). is_repeat (facts_of r again.ask) again ≡ true) (sym all) (ask-repeat rows a again (doings_of owns) makes accepted same (subst (λ (r : Rows). is_purged r.head ≡ false) all kept))

-- and so is a line that was applied
pub repeat-later : (rows : Rows) (l again : BankLine) (day later : ℕ) (owns : List Own) → IsApplied (line_on rows l day) → IsSameLine l again → is_purged (solo_rows (rows_after_line rows l day) owns).head ≡ false → line_on (solo_rows (rows_after_line rows l day) owns) again later ≡ told.Repeat
repeat-later rows l again day later owns applied same kept =
    let all = solo-doings (rows_after_line rows l day) owns in
    subst (λ (r : Rows). line_on r again later ≡ told.Repeat) (sym all) (line-repeat rows l again day later (doings_of owns) applied same (subst (λ (r : Rows). is_purged r.head ≡ false) all kept))
