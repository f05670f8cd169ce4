-- The names that the proofs of this crate cite, passed on from one place. Declares nothing.
pub use Rattle.byte_streams.proofs.FixedFacts.{fixed-injective, length-fixed, printed-six, six-digits}
unfoldable pub use Rattle.byte_streams.specs.Digits.{fixed_digits}
pub use Rattle.jiff.specs.Words.{days_in_month}
pub use Rattle.std.proofs.Common.{Bool, IfNone, IfSome, List, None, Ok, Option, Result, Some, [], arith, cond, drop, false, get_or, length, length-append, nat_le, nat_lt, negsuc, pos, refl, slice_index, suc, sym, take, true, zero, ℕ, ℤ, ◌%◌, ◌&&◌, ◌*◌, ◌++◌, ◌+◌, ◌-◌, ◌/◌, ◌<◌, ◌^◌, ◌∙◌, ◌∷◌, ◌≡◌, ◌≢◌, ◌≤◌}
pub use Rattle.std.proofs.lemmas.Bool.{cases_Bool, cases_lt, false≢true}
pub use Rattle.std.proofs.lemmas.Bool.Decides.{nat_tests}
pub use Rattle.std.proofs.lemmas.Fmt.{IsAscii-decimal, decimal-digits_value, decimal_digit, decimal_injective, decimal_is_IsNumeral, decimal_nonempty, first_decimal}
pub use Rattle.std.proofs.lemmas.Str.Parse.{IsNumeralModel, digit_at, numerals_by_value, parse_gives, parse_plain, tells_digits}
pub use Rattle.std.specs.Fmt.{decimal}
pub use Rattle.std.specs.Prelude.{unsigned_abs}
pub use Rattle.std.specs.Str.{IsUtf8, bytes_eq}
pub use Rattle.trust_values.specs.Limits.{IsAmount, IsAmountOrZero, IsBankAmount, IsEntryNo, IsMatterNo, MAX_DAY, MIN_DAY, month_day_of, month_of, year_of}
unfoldable pub use Rattle.trust_values.specs.Limits.{IsCivilDay, IsDay, is_day}
pub use Rattle.trust_values.specs.Retention.{IsDayAfter, day_number, next_day, retained_until}
pub use Rattle.trust_values.specs.Texts.{amount_of, amount_or_zero_of, amount_text, bank_amount_of, date_text, day_of, day_text, end_text, entry_of, entry_text, matter_of, matter_text, negative_text, on_calendar, or_here, signed_text, starts_plainly}
unfoldable pub use Rattle.trust_values.specs.Texts.{number_in}
