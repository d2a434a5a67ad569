-- Theorems on specs/Library.antt.
use Rattle.std.specs.Prelude.{ℕ, ◌≤◌, ◌≡◌, refl, List, [], length, drop}
use Rattle.std.proofs.Common.{zero-le, sym, ap, ◌∙◌, subst, inr}
use Rattle.std.specs.Prelude.{Some}
use Rattle.codec_forms.specs.Wire.{overlay}
use Rattle.book.specs.Model.{Book}
use Rattle.book.specs.Typed.{Every, U64}
use Rattle.archive_form.specs.Encode.{encode_model}
use Rattle.rules.specs.Books.{book_after}
use Rattle.rules.specs.Call.{Call, Value}
use Rattle.rules.specs.Opened.{opened}
use Rattle.rules.specs.Rule.{Outcome, issued_by}
use Rattle.rules_laws.specs.Sound.Run.{sound_opened}
use Rattle.rules_typed.specs.Theorems.{within_opened}
use Rattle.submission.specs.Calls.{last_link, outcome_after}
use Rattle.demands.specs.Demand3.{Demand3}
use Rattle.demands.proofs.Demand3.{demand_3}
use Rattle.c_boundary.specs.Held.{book_bytes}
use Rattle.c_boundary.specs.Settle.{Left, written_fits}
use Rattle.c_boundary_laws.specs.Lent.{Holds, put_length, put_holds, opened_room}
use Rattle.c_api.specs.Functions.{CCall, Returned, OpenDid}
use Rattle.c_laws.specs.Functions.{TypedC}
use Rattle.c_laws.specs.Listed.{calls, Ran}
use Rattle.c_laws.specs.Steps.{Good, good_held, good_typed, put_beyond}
use Rattle.c_laws.proofs.Steps.{behind}
use Rattle.c_laws.specs.Drains.{value_by, DrainedIn}
use Rattle.c_laws.proofs.Drains.{drained_in_lem}
use Rattle.c_boundary.specs.Forms.{value_form}
use Rattle.c_laws.specs.Library.{calls_from, book_from, DrainTold, Library}

-- ---- the theorem: `submission_book_open` on memory of any content and at least 30 bytes, and then any list of calls
pub library : (o i : ℕ) → U64 o → U64 i → (d : List ℕ) → 30 ≤ length d → {n : ℕ} {d₁ : List ℕ} → OpenDid d o i n d₁
    → {cs : List CCall} {rs : List Returned} {e : List ℕ} → Every TypedC cs → Ran d₁ cs rs e → (n ≡ 0) × Library o i d cs rs e
library o i to ti d room {n} {d₁} g {cs} {rs} {e} t ran =
    let x = written_fits 0 m [] d [] q zero-le in
    let y : d₁ ≡ d₂ = g.book ∙ ap (λ (l : Left). l.book) x in
    (g.number ∙ ap (λ (z : Left). z.number) x, from (subst (λ (z : List ℕ). Ran z cs rs e) y ran))
  where
    m : Book
    m = opened o i

    q : length (book_bytes m) ≤ length d
    q = opened_room o i (length d) room

    d₂ : List ℕ
    d₂ = overlay (book_bytes m) d

    long : length d₂ ≡ length d
    long = put_length m d q

    first : Good m d₂
    first = record { holds = put_holds m d q; sound = sound_opened o i; within = within_opened o i to ti }

    demand : Demand3 o i (calls_from o i d cs)
    demand = demand_3 o i (calls_from o i d cs)

    from : Ran d₂ cs rs e → Library o i d cs rs e
    from xs =
        let b = behind first t xs in
        let k : book_after encode_model (calls (length d₂) m cs) m ≡ book_from o i d cs =
        ap (λ (j : ℕ). book_after encode_model (calls j m cs) m) long ∙ sym (last_link o i (calls_from o i d cs)).book in
        record {
          returned = b.returned;
          long = b.long ∙ long;
          held = good_held b.good ∙ ap Some k;
          front = subst (λ (z : Book). Holds z e) k b.good.holds;
          beyond = b.beyond ∙ beyond_first;
          demand3 = demand;
          drained = λ before a rest p qs r ss w l z. told before a r (subst (λ (j : ℕ). DrainedIn m j before cs a r) long (drained_in_lem first t xs before a rest p qs r ss w l z));
        }
      where
        beyond_first : drop 57702 d₂ ≡ drop 57702 d
        beyond_first = put_beyond m d d₂ (good_typed first) (inr refl)

        told : (before : List CCall) (a : List ℕ) (r : Returned) → DrainedIn m (length d) before cs a r → DrainTold o i d before cs a r
        told before a r x = record {
          rest = x.rest;
          heard = x.heard;
          bytes = x.bytes ∙ ap (λ (w : Outcome Book Value). overlay (value_form (issued_by w) (value_by w)) a) (sym (outcome_after o i (calls_from o i d before) Call.Drain));
          predecessors = demand.behind11 (calls_from o i d before) x.rest x.heard;
        }
