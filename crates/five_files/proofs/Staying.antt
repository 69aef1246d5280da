-- The settings stay while requests are processed.
use Rattle.std.proofs.Common.{◌≡◌, ◌≤◌, ℕ, true, false, cond, List, [], ◌∷◌, ◌++◌, length, take, drop, Option, is_some, refl, sym, ap, ◌∙◌}
use Rattle.std.proofs.Common.{subst, arith}
use Rattle.std.proofs.lemmas.List.{take-append-drop, take-append-le, length-append, length-map}
use Rattle.std.proofs.lemmas.List.Concat.{flat_map-append}
use Rattle.std.proofs.lemmas.List.Sums.{fold-append}
use Rattle.fuse_request.specs.Opcodes.{Service}
use Rattle.fuse_init.specs.declared.settings.Settings.{Settings}
use Rattle.fuse_keeper.specs.History.{Entry, entry_id, History, after, has, add, grown}
use Rattle.fuse_keeper.specs.Stands.{Standing}
use Rattle.fuse_keeper.specs.KeeperState.{KeeperState}
use Rattle.fuse_session.specs.Settling.{Mark, replies}
use Rattle.fuse_session.specs.Processed.{Timed, kept_in, entries_at, answers_to, own_answers}
use Rattle.fuse_session.specs.Exchange.{Exchange, HoldsAt, Lived}
use Rattle.five_files.specs.Asking.{said, agreed_after}
use Rattle.five_files.specs.TheFiles.{the_files}
use Rattle.five_files.specs.Serving.{StayAsAgreed}
use Rattle.five_files.proofs.Same.{same_said, some_next}

some_pushed : (s : Option Settings) (h : History) (e : Entry) → is_some (after the_files s h) ≡ true → is_some (after the_files s (h ++ e ∷ [])) ≡ true
unfolding after
some_pushed s [] e some = some_next s e.asked some
some_pushed s (x ∷ h) e some = some_pushed (agreed_after s x.asked) h e some

some_added : (s : Option Settings) (h : History) (e : Entry) → is_some (after the_files s h) ≡ true → is_some (after the_files s (add h e)) ≡ true
unfolding add
some_added s h e some =
    elim (has h (entry_id e)) as (λ b. is_some (after the_files s (cond b h (h ++ e ∷ []))) ≡ true) [ true ↦ some | false ↦ some_pushed s h e some ]

some_grown : (s : Option Settings) (h : History) (es : List Entry) → is_some (after the_files s h) ≡ true → is_some (after the_files s (grown h es)) ≡ true
some_grown s h [] some = some
some_grown s h (e ∷ es) some = some_grown s (add h e) es (some_added s h e some)

-- ---- the first of the messages, and then the others

grown_more : (h : History) (xs ys : List Entry) → grown h (xs ++ ys) ≡ grown (grown h xs) ys
grown_more h xs ys = fold-append add h xs ys

kept_more : (V : Service) (xs ys : List Timed) → kept_in V (xs ++ ys) ≡ kept_in V xs ++ kept_in V ys
kept_more V xs ys = flat_map-append (entries_at V) xs ys

grown_parts : (h : History) (n : ℕ) (xs : List Timed)
    → grown (grown h (kept_in the_files.service (take n xs))) (kept_in the_files.service (drop n xs)) ≡ grown h (kept_in the_files.service xs)
grown_parts h n xs =
    sym (grown_more h (kept_in the_files.service (take n xs)) (kept_in the_files.service (drop n xs)))
    ∙ ap (grown h) (sym (kept_more the_files.service (take n xs) (drop n xs)) ∙ ap (kept_in the_files.service) (take-append-drop n xs))

-- what was answered was worked on
answers_number : (s : Option Settings) (g h : History) (ts : List Timed) → length (answers_to the_files s g h ts) ≡ length ts
answers_number s g h [] = refl
answers_number s g h (t ∷ ts) = omega (arith, answers_number s g (grown h (entries_at the_files.service t)) ts)

few_marks : (s : Option Settings) (h : History) (worked : List Timed) (marks : List Mark) (later : List (List ℕ))
    → own_answers the_files s h worked ≡ replies marks ++ later → length marks ≤ length worked
few_marks s h worked marks later e =
    let number = answers_number s (grown h (kept_in the_files.service worked)) h worked in
    omega (arith, ap length e, length-append (replies marks) later, length-map marks (λ (m : Mark). m.reply), number)

-- what messages leave answers as it did since INIT
pub lived_same : (k : KeeperState the_files) (at : Standing the_files) (x : Exchange) (answer : List ℕ) → Lived the_files at x (HoldsAt k) answer
    → StayAsAgreed k at x
lived_same k at x answer lived = λ n few some.
    let s = at.state in
    let h = at.history in
    let timed = x.timed in
    let g : History = grown h (kept_in the_files.service lived.worked) in
    let f : History = grown h (kept_in the_files.service (take n timed)) in
    let within : n ≤ length lived.worked = omega (arith, few, few_marks s h lived.worked x.marks lived.sent.later lived.sent.first) in
    let first : take n timed ≡ take n lived.worked = ap (take n) lived.parts ∙ take-append-le n lived.worked lived.unprocessed within in
    let grows : grown f (kept_in the_files.service (drop n lived.worked)) ≡ g =
    ap (λ (xs : List Timed). grown (grown h (kept_in the_files.service xs)) (kept_in the_files.service (drop n lived.worked))) first
    ∙ grown_parts h n lived.worked in
    let some' : is_some (after the_files s g) ≡ true =
    subst (λ (x : History). is_some (after the_files s x) ≡ true) grows (some_grown s f (kept_in the_files.service (drop n lived.worked)) some) in
    record {
      rows = lived.stands.rows;
      records = lived.stands.records;
      held = lived.stands.held;
      same = λ e. ap (λ (rows : Option Settings). said rows e.asked) lived.stands.stands.rows_are
          ∙ same_said (after the_files s f) (after the_files s g) e.asked some some';
    }
