use Rattle.trust_desk.proofs.Names.{Counts, ℕ, ◌≡◌, ◌∙◌, ◌+◌, ◌++◌, ◌∷◌, [], List, ap, refl, sym, arith, take, length, length-append, subst, false, Reply, counted_replies, heard, Heard, Asks, AreNoFaults, AreNoFaultsButLast, IsMadeInRun, MayLeave, before_fault, RunsSoundly, is_fault_reply, KeepsBook, ints, nat_tests}
use Rattle.trust_desk.proofs.Calls.{kept-then, kept-as, kept-still}
use Rattle.trust_desk.proofs.Runs.{run-more, counted-push, sound-runs-are-runs, heard-more}
use Rattle.trust_desk.proofs.Own.{own-run}
use Rattle.trust_desk.proofs.Crashes.{leave-as, leave-then, leave-still}
use Rattle.trust_desk.proofs.MadeRows.{AreRun, made-before, made-last, none-at_all, none-before, none-last, plain-step, run-before}
use Rattle.trust_desk.proofs.desk.Desk.run.Goals as goal

pub loop-request-preserved : goal.loop-request-preserved
loop-request-preserved g c =
    let B = g.B.Book in
    let firm = λ (b : _). (g.B.Book.seen b).firm in
    let i = c.loop-request.invariant in
    let step = c.answer-reply.ensures.replied in
    let pushed = rw c.unwrap.ensures at c.push.ensures.items in
    let added = pushed ∙ ap (λ xs. xs ++ c.answer-reply.result ∷ []) c.reserve.ensures.items in
    let rs = c.loop-request.replies.items in
    let r = c.answer-reply.result in
    let long = ap length added ∙ (length-append rs (r ∷ []) ∙ ap (λ n. n + 1) i.long) in
    let told = λ (n : ℕ). sym (counted-push c.loop-request.replies.items c.answer-reply.result n) ∙ ap (λ (rs : List Reply). counted_replies rs n) (sym added) in
    record {
      run = λ clean stands.
          let was = step.kept.was_clean clean in
          let now = i.kept.still_stands was stands in
          run-more c.args.day (firm c.args.self.now) (firm c.loop-request.self) (firm c.answer-reply.new.self) c.args.requests.now c.loop-request.request-index c.request-item.result c.loop-request.replies.items c.push.new.self.items c.answer-reply.result (omega arith) c.request-item.is (i.run was stands) (step.step clean now) ((B.seen c.answer-reply.new.self).sound (step.kept.still_stands clean now)) added;
      long = long;
      kept = kept-as (λ sure stands. told (B.seen c.args.self.now).refusals) (kept-then i.kept step.kept);
      crash = λ sure clean stands but_last.
          let plain = none-before rs r (subst AreNoFaultsButLast added but_last) in
          let so_far = i.crash (step.kept.was_sure sure) clean stands (none-at_all rs plain) in
          let served = so_far.serves clean plain in
          let stood = i.kept.still_stands served stands in
          let one = step.crash sure stood (λ asked. served) in
          let q = c.request-item.result in
          let hs = heard (take c.loop-request.request-index c.args.requests.now) in
          let last = λ (fine : AreNoFaults c.push.new.self.items). none-last rs r (subst AreNoFaults added fine) in
          let made = leave-as last (λ found is. is) (λ fine. plain-step c.args.day (firm c.loop-request.self) (firm c.answer-reply.new.self) (Asks q) r (last fine) (step.step (one.serves served (last fine)) stood)) one in
          subst (λ (l : List Heard). MayLeave (AreNoFaults c.push.new.self.items) (IsMadeInRun c.args.day (firm c.args.self.now) l) (firm c.args.self.now) (firm c.answer-reply.new.self) (B.seen c.args.self.now) (B.seen c.answer-reply.new.self))
          (sym (heard-more c.args.requests.now c.loop-request.request-index q (omega arith) c.request-item.is))
          (leave-then (λ found is. made-before c.args.day (firm c.args.self.now) found hs (Asks q) is) (λ found is. made-last c.args.day (firm c.args.self.now) (firm c.loop-request.self) found hs (Asks q) rs (i.run served stands) plain is) plain so_far made);
      shut = λ sure clean stands.
          let was = step.kept.was_sure sure in
          let served = λ (plain : AreNoFaults rs). (i.crash was clean stands (none-at_all rs plain)).serves clean plain in
          let now = λ (plain : AreNoFaults rs). i.run (served plain) stands in
          let next = λ (plain : AreNoFaults rs) (fine : is_fault_reply r ≡ false).
          let stood = i.kept.still_stands (served plain) stands in
          let clean_next = (step.crash sure stood (λ asked. served plain)).serves (served plain) fine in
          run-more c.args.day (firm c.args.self.now) (firm c.loop-request.self) (firm c.answer-reply.new.self) c.args.requests.now c.loop-request.request-index c.request-item.result rs c.push.new.self.items r (omega arith) c.request-item.is (now plain) (step.step clean_next stood) ((B.seen c.answer-reply.new.self).sound (step.kept.still_stands clean_next stood)) added in
          run-before c.args.day (firm c.args.self.now) c.args.requests.now rs c.push.new.self.items r added (i.shut was clean stands)
          (λ plain. (firm c.loop-request.self, subst (λ n. RunsSoundly c.args.day (firm c.args.self.now) (heard (take n c.args.requests.now)) rs (firm c.loop-request.self)) (sym i.long) (now plain)))
          (λ plain fine. (firm c.answer-reply.new.self, subst (λ n. RunsSoundly c.args.day (firm c.args.self.now) (heard (take n c.args.requests.now)) c.push.new.self.items (firm c.answer-reply.new.self)) (sym long) (next plain fine)));
    }

pub returns-then-is_err-clause-own : goal.returns-then-is_err-clause-own
returns-then-is_err-clause-own g c =
    let firm = λ (b : _). (g.B.Book.seen b).firm in
    let i = c.loop-request.invariant in
    λ clean stands m fine. own-run m c.args.day (firm c.args.self.now) (firm c.loop-request.self) c.args.requests.now c.loop-request.request-index c.loop-request.replies.items c.reserve.new.self.items c.reserve.ensures.items i.long (sound-runs-are-runs c.args.day (firm c.args.self.now) (firm c.loop-request.self) (heard (take c.loop-request.request-index c.args.requests.now)) c.loop-request.replies.items (i.run clean stands)) fine

pub returns-clause-own : goal.returns-clause-own
returns-clause-own g c =
    let firm = λ (b : _). (g.B.Book.seen b).firm in
    let i = c.loop-request.invariant in
    λ clean stands m fine. own-run m c.args.day (firm c.args.self.now) (firm c.loop-request.self) c.args.requests.now c.loop-request.request-index c.loop-request.replies.items c.loop-request.replies.items refl i.long (sound-runs-are-runs c.args.day (firm c.args.self.now) (firm c.loop-request.self) (heard (take c.loop-request.request-index c.args.requests.now)) c.loop-request.replies.items (i.run clean stands)) fine

pub returns-then-is_err-clause-crash : goal.returns-then-is_err-clause-crash
returns-then-is_err-clause-crash g c =
    let B = g.B.Book in
    let firm = λ (b : _). (g.B.Book.seen b).firm in
    let i = c.loop-request.invariant in
    grind (arith, ints, nat_tests, heard, take, length)

pub returns-then-is_err-clause-shut : goal.returns-then-is_err-clause-shut
returns-then-is_err-clause-shut g c =
    λ sure clean stands. subst (λ (rs : List Reply). AreRun c.args.day (g.B.Book.seen c.args.self.now).firm c.args.requests.now (before_fault rs)) (sym c.reserve.ensures.items) (c.loop-request.invariant.shut sure clean stands)

pub returns-clause-crash : goal.returns-clause-crash
returns-clause-crash g c =
    let B = g.B.Book in
    let firm = λ (b : _). (g.B.Book.seen b).firm in
    let i = c.loop-request.invariant in
    λ sure clean stands but_last. subst (λ n. MayLeave (AreNoFaults c.loop-request.replies.items) (IsMadeInRun c.args.day (firm c.args.self.now) (heard (take n c.args.requests.now))) (firm c.args.self.now) (firm c.loop-request.self) (B.seen c.args.self.now) (B.seen c.loop-request.self)) (sym i.long) (i.crash sure clean stands but_last)

pub loop-request-init : goal.loop-request-init
loop-request-init g c =
    let B = g.B.Book in
    let firm = λ (b : _). (g.B.Book.seen b).firm in
    let none = sym c.new-replies.ensures.items in
    let run : RunsSoundly c.args.day (firm c.args.self.now) [] [] (firm c.args.self.now) = refl in
    record {
      run = λ clean stands. subst (λ (rs : List Reply). RunsSoundly c.args.day (firm c.args.self.now) [] rs (firm c.args.self.now)) none run;
      long = subst (λ (rs : List Reply). length rs ≡ 0) none refl;
      kept = subst (λ (rs : List Reply). KeepsBook (Counts (counted_replies rs)) (B.seen c.args.self.now) (B.seen c.args.self.now)) none (kept-still (B.seen c.args.self.now));
      crash = λ sure clean stands but_last. leave-still (firm c.args.self.now) (B.seen c.args.self.now);
      shut = λ sure clean stands. subst (λ (rs : List Reply). AreRun c.args.day (firm c.args.self.now) c.args.requests.now (before_fault rs)) none (firm c.args.self.now, run);
    }
