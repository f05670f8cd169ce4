use Rattle.sql_reads.proofs.Names.{◌≡◌, ◌+◌, ◌++◌, ◌∷◌, [], rules, ap, ◌∙◌}
use Rattle.sql_reads.proofs.NoDismissals.{next_passed, next_told}
use Rattle.sql_reads.proofs.lists.numbers_of_none.Goals as goal

pub each-preserved-then-is_like_dismissal : goal.each-preserved-then-is_like_dismissal
each-preserved-then-is_like_dismissal c =
    let counted : c.saturating_add-place.result ≡ c.each.row-index + 1 = search rules in (
      next_passed c.args.rows.now c.each.row-index c.row-item.result (search rules) c.row-item.is c.each.unread.items
          c.each.invariant.0 (c.is_like_dismissal.ensures.yes (search rules)),
      counted,
    )

pub each-preserved : goal.each-preserved
each-preserved c =
    let counted : c.saturating_add-place.result ≡ c.each.row-index + 1 = search rules in (
      next_told c.args.rows.now c.each.row-index c.row-item.result (search rules) c.row-item.is c.each.unread.items
          c.each.invariant.0 _ (c.is_like_dismissal.ensures.no (search rules))
          (c.in_ok-push.ensures.items ∙ ap (λ n. c.each.unread.items ++ n ∷ []) counted),
      counted,
    )
