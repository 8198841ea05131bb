-- Histories: with one call more, and with previews taken out.
-- Assumes nothing.
use mathlib.Core.Path.{◌≡◌, refl, sym, ap, subst, ◌∙◌}
use mathlib.Core.List.{List, [], ◌∷◌, ◌++◌, map}
use Prim.Native.Nat.{ℕ}
use lib.ListN.{length}
use Rattle.session.specs.Tables.{since}
use Rattle.session.specs.Reading.{Arguments, Reading, begins, read, reading}
use Rattle.session.specs.Promise.{Call, arguments_of, Host, host_after, run_calls, LentNow, Lent, History, start_host, finish, Result, result_of, results, Marked, all_calls, kept_calls, kept_results, PreviewsOut, ExtendedBy}
use Rattle.session.specs.declared.state.Session.{Session}
use Rattle.session.proofs.PreviewLaws.{preview_reads}

-- ---- one call more

run_more : (cs : List Call) (h : Host) (c : Call) → run_calls h (cs ++ (c ∷ [])) ≡ host_after (run_calls h cs) c
run_more [] h c = refl
run_more (x ∷ cs) h c = run_more cs (host_after h x) c

pub lent_more : (cs : List Call) (h : Host) (c : Call) → Lent h cs → LentNow (run_calls h cs) c → Lent h (cs ++ (c ∷ []))
lent_more [] h c l k = (k, tt)
lent_more (x ∷ cs) h c l k = (l.0, lent_more cs (host_after h x) c l.1 k)

abbrev pub with_call : (h : History) (c : Call) → LentNow (finish h) c → History
with_call h c l = record { opening = h.opening; good = h.good; object = h.object; calls = h.calls ++ (c ∷ []); lent = lent_more h.calls (start_host h) c h.lent l }

pub call_finish : (h : History) (c : Call) (l : LentNow (finish h) c) → finish (with_call h c l) ≡ host_after (finish h) c
call_finish h c l = run_more h.calls (start_host h) c

pub extended : (h : History) (c : Call) (s : Session) (object : List ℕ) → LentNow (finish h) c → host_after (finish h) c ≡ record { session = s; object = object } → ExtendedBy h c s object
extended h c s object l e = record { history = with_call h c l; opening = refl; buffer = refl; calls = refl; host = call_finish h c l ∙ e }

-- ---- previews taken out

-- two lists that a host makes, the first with previews marked, and what is read of both
record Unaltered (r : Reading) (h : Host) (ms : List Marked) : Type 0 where
  same_host : run_calls h (all_calls ms) ≡ run_calls h (kept_calls ms)
  same_results : kept_results h ms ≡ results h (kept_calls ms)
  same_reading : reading r (map arguments_of (all_calls ms)) ≡ reading r (map arguments_of (kept_calls ms))
  lent_too : Lent h (all_calls ms) → Lent h (kept_calls ms)

unaltered : (ms : List Marked) (r : Reading) (h : Host) → Unaltered r h ms
unaltered [] r h = record { same_host = refl; same_results = refl; same_reading = refl; lent_too = λ l. l }
unaltered (Marked.kept c ∷ ms) r h =
    let a = unaltered ms (read r (arguments_of c)) (host_after h c) in
    record { same_host = a.same_host; same_results = ap (λ (l : List Result). result_of h c ∷ l) a.same_results; same_reading = a.same_reading; lent_too = λ l. (l.0, a.lent_too l.1) }
unaltered (Marked.removed kind yes_no fascn out ∷ ms) r h =
    let a = unaltered ms r h in
    let stays : read r (Arguments.preview kind yes_no fascn (length out)) ≡ r = preview_reads r kind yes_no fascn (length out) in
    record { same_host = a.same_host; same_results = a.same_results; same_reading = ap (λ (q : Reading). reading q (map arguments_of (all_calls ms))) stays ∙ a.same_reading; lent_too = λ l. a.lent_too l.1 }

pub previews_out : (h : History) (ms : List Marked) → all_calls ms ≡ h.calls → PreviewsOut h ms
previews_out h ms e =
    let a = unaltered ms (begins since h.opening) (start_host h) in
    record {
      history = record { opening = h.opening; good = h.good; object = h.object; calls = kept_calls ms; lent = a.lent_too (subst (Lent (start_host h)) (sym e) h.lent) };
      opening = refl;
      buffer = refl;
      calls = refl;
      results = a.same_results;
      host = ap (run_calls (start_host h)) (sym e) ∙ a.same_host;
      reading = ap (λ (cs : List Call). reading (begins since h.opening) (map arguments_of cs)) (sym e) ∙ a.same_reading;
    }
