-- The promise, whole: the model's replies are the ledger's, and what the ledger says of sums and of reordered stretches carries over by that equation.
use mathlib.Core.Path.{◌≡◌, sym, ap, ◌∙◌, subst}
use mathlib.Core.List.{◌∷◌, [], ◌++◌}
use Rattle.grids.specs.Lists.{keep}
use Rattle.ledger.specs.Calls.{render}
use Rattle.ledger.specs.Ledger.{opened}
use Rattle.ledger.specs.Model.{State, replies}
use Rattle.ledger.specs.Promise.{open_state, first_shown, is_accepted, NoRefusal, painted_sum, without_refused, Promise}
use Rattle.ledger.proofs.Answers.{answers-are, label-cells-few}
use Rattle.ledger.proofs.Replies.{replies-of-ledger, replies-without-refused, first-shown-kept, kept-no-refusal}
use Rattle.ledger.proofs.Sums.{ledger-sum}
use Rattle.ledger.proofs.Reorder.{ledger-reordered}

pub promise : Promise
promise = record {
  answers = answers-are;
  report = label-cells-few;
  ledger = replies-of-ledger;
  sum = λ o cells labels e calls area words f n none some.
      let before = replies-of-ledger o cells labels e calls in
      let with-render = replies-of-ledger o cells labels e (calls ++ (render area words ∷ [])) in
      ledger-sum o calls area words f n (sym (ap first_shown before) ∙ none) (sym (ap first_shown with-render) ∙ some) ∙ ap painted_sum (sym before);
  shorter = λ o cells labels e calls.
      let s : State = open_state o cells labels in
      let kept : replies s (without_refused s calls) ≡ keep is_accepted (replies s calls) = replies-without-refused calls s in
      (ap first_shown kept ∙ first-shown-kept (replies s calls), subst NoRefusal (sym kept) (kept-no-refusal (replies s calls)));
  order = λ o cells labels e calls k front stretch other rest parts all reordered prints.
      let s : State = open_state o cells labels in
      let was = replies-of-ledger o cells labels e (front ++ (stretch ++ rest)) in
      let now = replies-of-ledger o cells labels e (front ++ (other ++ rest)) in
      let kept : replies s (front ++ (stretch ++ rest)) ≡ keep is_accepted (replies s calls) = ap (replies s) (sym parts) ∙ replies-without-refused calls s in
      let fine : NoRefusal (replies s (front ++ (stretch ++ rest))) = subst NoRefusal (sym kept) (kept-no-refusal (replies s calls)) in
      let t = ledger-reordered k o (opened o) front stretch other rest all reordered prints (subst NoRefusal was fine) in
      (ap first_shown now ∙ t.0 ∙ ap first_shown (sym was) ∙ ap first_shown kept ∙ first-shown-kept (replies s calls), subst NoRefusal (sym now) t.1);
}
