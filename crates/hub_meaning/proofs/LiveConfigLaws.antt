-- The live configurations and their histories after one more own frame.
use Rattle.std.proofs.Common.{◌≡◌, ℕ, zero, suc, ◌+◌, ◌<◌, ℤ, Bool, true, false, not, cond, List, [], ◌∷◌, ◌++◌, length, take, drop, Some, None, Result, Ok, Err, is_some, true≢false, refl, sym, ap, subst, ◌∙◌, append_assoc, arith}
use Rattle.std.specs.Prelude.{◌||◌}
use Rattle.std.specs.List.{list_any}
use Rattle.std.specs.Ordering.{int_eq}
use Rattle.std.specs.Cmp.{signed_Decides}
use Rattle.std.proofs.lemmas.List.Concat.{flat_map-append}
use Rattle.std.proofs.lemmas.List.{append-nil, take-append-drop, take-append-le, drop-append-le, take_at, take_all, drop_all, length-append}
use Rattle.sd_base.specs.Outputs.{outputs_after}
use Rattle.sd_base.proofs.OutputsLemmas.{outputs_after-push}
use Rattle.atom_record.specs.declared.atom.Atom.{Atom}
use Rattle.config_types.specs.declared.config.Config.{Config}
use Rattle.config_types.specs.declared.matcher.SimpleMatcher.{SimpleMatcher}
use Rattle.session_frames.specs.declared.frame.Frame.{Frame}
use Rattle.session_frames.specs.declared.frame.Frame.TheVariants.{Log, Install, Remove, Report}
use Rattle.session_frames.specs.declared.reply.ReplyBody.{ReplyBody}
use Rattle.config_links.specs.declared.linked.Linked.{Linked}
use Rattle.config_links.specs.Verdict.{linked_form}
use Rattle.metric_meaning.specs.Histories.{Step, Reported, with_steps, logged_frames, log_of_history}
use Rattle.hub_meaning.specs.SessionLog.{log_frame_in, log_frames, clock_of}
use Rattle.hub_meaning.specs.Acceptance.{LiveConfig, acceptance}
use Rattle.hub_meaning.specs.LiveConfigs.{with_config, without_id, config_at, live_with, live_after, live_from, live, installed_bytes, first_bytes, install_bytes, step_at, history_of}

live_from-push : (before : List Frame) (configs : List LiveConfig) (frames : List Frame) (frame : Frame)
    → live_from before configs (frames ++ frame ∷ []) ≡ live_after (before ++ frames) frame
    (live_from before configs frames)
live_from-push before configs [] frame = ap (λ b. live_after b frame configs) (sym (append-nil before))
live_from-push before configs (first ∷ frames) frame =
    live_from-push (before ++ first ∷ []) (live_after before first configs) frames frame
    ∙ ap (λ b. live_after b frame (live_from before configs (first ∷ frames))) (append_assoc before (first ∷ []) frames)

-- what is live after one more own frame
pub live-push : (frames : List Frame) (frame : Frame)
    → live (frames ++ frame ∷ []) ≡ live_after frames frame (live frames)
live-push frames frame = live_from-push [] [] frames frame

-- each of these was installed before so many frames had come
abbrev pub ArePlaced : ℕ → List LiveConfig → Type 0
ArePlaced count [] = Unit {0}
ArePlaced count (config ∷ configs) = (config.place < count) × ArePlaced count configs

ArePlaced-later : (count more : ℕ) (configs : List LiveConfig) → ArePlaced count configs
    → ArePlaced (count + more) configs
ArePlaced-later count more [] placed = tt
ArePlaced-later count more (config ∷ configs) placed =
    (omega (arith, placed.0), ArePlaced-later count more configs placed.1)

chosen : (same : Bool) (count : ℕ) (new old : LiveConfig) (others back : List LiveConfig) → new.place < count
    → ArePlaced count (old ∷ others) → ArePlaced count back
    → ArePlaced count (cond same (new ∷ others) (old ∷ back))
chosen true count new old others back is placed placed_after = (is, placed.1)
chosen false count new old others back is placed placed_after = (placed.0, placed_after)

ArePlaced-with_config : (count : ℕ) (new : LiveConfig) (configs : List LiveConfig) → new.place < count
    → ArePlaced count configs → ArePlaced count (with_config new configs)
ArePlaced-with_config count new [] is placed = (is, tt)
ArePlaced-with_config count new (old ∷ others) is placed =
    chosen (int_eq old.id new.id) count new old others (with_config new others) is placed
    (ArePlaced-with_config count new others is placed.1)

left : (stays : Bool) (count : ℕ) (config : LiveConfig) (others : List LiveConfig) → config.place < count
    → ArePlaced count others → ArePlaced count (cond stays (config ∷ others) others)
left true count config others is placed = (is, placed)
left false count config others is placed = placed

ArePlaced-without_id : (count : ℕ) (id : ℤ) (configs : List LiveConfig) → ArePlaced count configs
    → ArePlaced count (without_id id configs)
ArePlaced-without_id count id [] placed = tt
ArePlaced-without_id count id (config ∷ others) placed =
    left (not (int_eq config.id id)) count config (without_id id others) placed.0
    (ArePlaced-without_id count id others placed.1)

ArePlaced-live_with : (place : ℕ) (id : ℤ) (found : Result Config ReplyBody) (configs : List LiveConfig)
    → ArePlaced place configs → ArePlaced (place + 1) (live_with place id found configs)
ArePlaced-live_with place id (Ok config) configs placed =
    ArePlaced-with_config (place + 1) (record { id = id; config = config; place = place }) configs (omega arith)
    (ArePlaced-later place 1 configs placed)
ArePlaced-live_with place id (Err refusal) configs placed = ArePlaced-later place 1 configs placed

ArePlaced-after : (before : List Frame) (frame : Frame) (configs : List LiveConfig) → ArePlaced (length before) configs
    → ArePlaced (length before + 1) (live_after before frame configs)
ArePlaced-after before (Log frame) configs placed = ArePlaced-later (length before) 1 configs placed
ArePlaced-after before (Install uid id config) configs placed =
    ArePlaced-live_with (length before) id (acceptance uid id config configs) configs placed
ArePlaced-after before (Remove uid id) configs placed =
    ArePlaced-later (length before) 1 (without_id id configs) (ArePlaced-without_id (length before) id configs placed)
ArePlaced-after before (Report uid id include_current) configs placed =
    ArePlaced-later (length before) 1 configs placed

ArePlaced-live_from : (before : List Frame) (configs : List LiveConfig) (frames : List Frame)
    → ArePlaced (length before) configs → ArePlaced (length before + length frames) (live_from before configs frames)
ArePlaced-live_from before configs [] placed = ArePlaced-later (length before) 0 configs placed
ArePlaced-live_from before configs (frame ∷ frames) placed =
    let more : length (before ++ frame ∷ []) ≡ length before + 1 = length-append before (frame ∷ []) in
    let one : ArePlaced (length (before ++ frame ∷ [])) (live_after before frame configs) =
    rw more (ArePlaced-after before frame configs placed) in
    let all = ArePlaced-live_from (before ++ frame ∷ []) (live_after before frame configs) frames one in
    let count : length (before ++ frame ∷ []) + length frames ≡ length before + length (frame ∷ frames) =
    omega (arith, more) in
    subst (λ n. ArePlaced n (live_from before configs (frame ∷ frames))) count all

-- each live configuration was installed by one of the frames
pub live_placed : (frames : List Frame) → ArePlaced (length frames) (live frames)
live_placed frames = subst (λ n. ArePlaced n (live frames)) (omega arith) (ArePlaced-live_from [] [] frames tt)

first_after : (place : ℕ) (frames more : List Frame) → place < length frames
    → first_bytes (drop place (frames ++ more)) ≡ first_bytes (drop place frames)
first_after place [] more there = absurd (omega (arith, there))
first_after zero (first ∷ frames) more there = refl
first_after (suc place) (first ∷ frames) more there = first_after place frames more (omega (arith, there))

-- the bytes of an install stay what they are
pub install_bytes-push : (frames : List Frame) (frame : Frame) (config : LiveConfig) → config.place < length frames
    → install_bytes (frames ++ frame ∷ []) config ≡ install_bytes frames config
install_bytes-push frames frame config there = first_after config.place frames (frame ∷ []) there

first_last : (frames : List Frame) (frame : Frame)
    → first_bytes (drop (length frames) (frames ++ frame ∷ [])) ≡ installed_bytes frame
first_last [] frame = refl
first_last (first ∷ frames) frame = first_last frames frame

-- those of the last frame are what it brings
pub install_bytes-new : (frames : List Frame) (frame : Frame) (config : LiveConfig) → config.place ≡ length frames
    → install_bytes (frames ++ frame ∷ []) config ≡ installed_bytes frame
install_bytes-new frames frame config last =
    ap (λ place. first_bytes (drop place (frames ++ frame ∷ []))) last ∙ first_last frames frame

module _ (says : SimpleMatcher → Atom → Bool) where
  -- a live configuration has seen one more step, if the frame is one to it
  pub history_of-push : (client : ℤ) (frames : List Frame) (frame : Frame) (config : LiveConfig)
      → config.place < length frames
      → history_of says client (frames ++ frame ∷ []) config ≡ with_steps (history_of says client frames config)
      (step_at says config.id (linked_form config.config client) frames frame)
  history_of-push client frames frame config placed =
      let step = step_at says config.id (linked_form config.config client) in
      let before : take config.place (frames ++ frame ∷ []) ≡ take config.place frames =
      take-append-le config.place frames (frame ∷ []) (omega (arith, placed)) in
      let front : take (suc config.place) (frames ++ frame ∷ []) ≡ take (suc config.place) frames =
      take-append-le (suc config.place) frames (frame ∷ []) (omega (arith, placed)) in
      let back : drop (suc config.place) (frames ++ frame ∷ []) ≡ drop (suc config.place) frames ++ frame ∷ [] =
      drop-append-le (suc config.place) frames (frame ∷ []) (omega (arith, placed)) in
      let steps : outputs_after step (take (suc config.place) (frames ++ frame ∷ []))
      (drop (suc config.place) (frames ++ frame ∷ []))
      ≡ outputs_after step (take (suc config.place) frames) (drop (suc config.place) frames) ++ step frames frame =
      rw (front, back) (outputs_after-push step (take (suc config.place) frames) (drop (suc config.place) frames) frame
      ∙ ap (λ all. outputs_after step (take (suc config.place) frames) (drop (suc config.place) frames) ++ step all
      frame)
      (take-append-drop (suc config.place) frames)) in
      let base : clock_of (take config.place (frames ++ frame ∷ [])) ≡ clock_of (take config.place frames) =
      ap clock_of before in
      let opening : log_frames (take (suc config.place) (frames ++ frame ∷ []))
      ≡ log_frames (take (suc config.place) frames) = ap log_frames front in
      cc

  -- a configuration that was just installed has seen nothing, and its base is the clock
  pub history_of-new : (client : ℤ) (frames : List Frame) (frame : Frame) (config : LiveConfig)
      → config.place ≡ length frames
      → history_of says client (frames ++ frame ∷ []) config
      ≡ record {
        installed = record {
          base = clock_of frames;
          opening = log_frames (frames ++ frame ∷ []);
          linked = linked_form config.config client;
        };
        steps = [];
      }
  history_of-new client frames frame config here =
      let step = step_at says config.id (linked_form config.config client) in
      let before : take config.place (frames ++ frame ∷ []) ≡ frames =
      take_at frames (frame ∷ []) config.place (sym here) in
      let none : drop (suc config.place) (frames ++ frame ∷ []) ≡ [] =
      drop_all (suc config.place) (frames ++ frame ∷ []) (omega (arith, here, length-append frames (frame ∷ []))) in
      let all : take (suc config.place) (frames ++ frame ∷ []) ≡ frames ++ frame ∷ [] =
      take_all (suc config.place) (frames ++ frame ∷ []) (omega (arith, here, length-append frames (frame ∷ []))) in
      let opening : log_frames (take (suc config.place) (frames ++ frame ∷ [])) ≡ log_frames (frames ++ frame ∷ []) =
      ap log_frames all in
      let steps : outputs_after step (take (suc config.place) (frames ++ frame ∷ []))
      (drop (suc config.place) (frames ++ frame ∷ [])) ≡ [] = rw none refl in
      let base : clock_of (take config.place (frames ++ frame ∷ [])) ≡ clock_of frames = ap clock_of before in
      cc

  -- the frames of the log among steps are those among the frames that the steps are of
  logged_steps : (id : ℤ) (linked : Linked) (before frames : List Frame)
      → logged_frames (outputs_after (step_at says id linked) before frames) ≡ log_frames frames
  logged_steps id linked before [] = refl
  logged_steps id linked before (Log frame ∷ frames) =
      ap (λ l. frame ∷ l) (logged_steps id linked (before ++ Log frame ∷ []) frames)
  logged_steps id linked before (Install uid of config ∷ frames) =
      logged_steps id linked (before ++ Install uid of config ∷ []) frames
  logged_steps id linked before (Remove uid of ∷ frames) =
      logged_steps id linked (before ++ Remove uid of ∷ []) frames
  logged_steps id linked before (Report uid of include_current ∷ frames) =
      by_case (int_eq of id) (logged_steps id linked (before ++ Report uid of include_current ∷ []) frames) where
        step : Step
        step = record { at = clock_of before; what = Reported include_current; truths = [] }

        by_case : (same : Bool)
            → logged_frames (outputs_after (step_at says id linked)
            (before ++ Report uid of include_current ∷ []) frames)
            ≡ log_frames frames
            → logged_frames (cond same (step ∷ []) []
            ++ outputs_after (step_at says id linked) (before ++ Report uid of include_current ∷ []) frames)
            ≡ log_frames frames
        by_case true rest = rest
        by_case false rest = rest

  -- the whole log of a history is the log of all frames
  pub history_of-log : (client : ℤ) (frames : List Frame) (config : LiveConfig)
      → log_of_history (history_of says client frames config) ≡ log_frames frames
  history_of-log client frames config =
      let front = take (suc config.place) frames in
      let back = drop (suc config.place) frames in
      ap (λ l. log_frames front ++ l) (logged_steps config.id (linked_form config.config client) front back)
      ∙ sym (flat_map-append log_frame_in front back)
      ∙ ap log_frames (take-append-drop (suc config.place) frames)

-- two numbers that are equal may be told apart from either side
pub int_eq_sym : (x y : ℤ) → int_eq x y ≡ int_eq y x
int_eq_sym x y = by_case (int_eq x y) refl where
  by_case : (same : Bool) → int_eq x y ≡ same → same ≡ int_eq y x
  by_case true e = sym ((signed_Decides y x).1 (sym ((signed_Decides x y).0 e)))
  by_case false e = other (int_eq y x) refl where
    other : (turned : Bool) → int_eq y x ≡ turned → false ≡ turned
    other true t = sym e ∙ (signed_Decides x y).1 (sym ((signed_Decides y x).0 t))
    other false t = refl

-- one of these has the id
abbrev pub has_config : ℤ → List LiveConfig → Bool
has_config id configs = list_any (λ (config : LiveConfig). int_eq config.id id) configs

-- no two of these have one id
abbrev pub AreDistinct : List LiveConfig → Type 0
AreDistinct [] = Unit {0}
AreDistinct (config ∷ configs) = (has_config config.id configs ≡ false) × AreDistinct configs

has_config-with_config : (id : ℤ) (new : LiveConfig) (configs : List LiveConfig)
    → has_config id (with_config new configs) ≡ (has_config id configs || int_eq new.id id)
has_config-with_config id new [] = grind arith
has_config-with_config id new (old ∷ others) =
    by_case (int_eq old.id new.id) refl (has_config-with_config id new others) where
      by_case : (same : Bool) → int_eq old.id new.id ≡ same
          → has_config id (with_config new others) ≡ (has_config id others || int_eq new.id id)
          → has_config id (cond same (new ∷ others) (old ∷ with_config new others))
          ≡ (has_config id (old ∷ others) || int_eq new.id id)
      by_case true e rest = let one : int_eq old.id id ≡ int_eq new.id id =
          ap (λ n. int_eq n id) ((signed_Decides old.id new.id).0 e) in grind arith
      by_case false e rest = grind arith

AreDistinct-with_config : (new : LiveConfig) (configs : List LiveConfig) → AreDistinct configs
    → AreDistinct (with_config new configs)
AreDistinct-with_config new [] distinct = (refl, tt)
AreDistinct-with_config new (old ∷ others) distinct =
    by_case (int_eq old.id new.id) refl (AreDistinct-with_config new others distinct.1) where
      by_case : (same : Bool) → int_eq old.id new.id ≡ same → AreDistinct (with_config new others)
          → AreDistinct (cond same (new ∷ others) (old ∷ with_config new others))
      by_case true e rest = (
        ap (λ id. has_config id others) (sym ((signed_Decides old.id new.id).0 e)) ∙ distinct.0,
        distinct.1,
      )
      by_case false e rest =
          let apart : int_eq new.id old.id ≡ false = int_eq_sym new.id old.id ∙ e in
          let head : has_config old.id (with_config new others) ≡ false =
          has_config-with_config old.id new others ∙ ap (λ b. b || int_eq new.id old.id) distinct.0 ∙ apart in
          (head, rest)

kept_if : (stays : Bool) (id : ℤ) (config : LiveConfig) (others rest : List LiveConfig)
    → has_config id (config ∷ others) ≡ false → has_config id rest ≡ false
    → has_config id (cond stays (config ∷ rest) rest) ≡ false
kept_if true id config others rest none tail = grind arith
kept_if false id config others rest none tail = tail

has_config-without : (id gone : ℤ) (configs : List LiveConfig) → has_config id configs ≡ false
    → has_config id (without_id gone configs) ≡ false
has_config-without id gone [] none = none
has_config-without id gone (config ∷ others) none =
    let tail : has_config id others ≡ false = grind arith in
    kept_if (not (int_eq config.id gone)) id config others (without_id gone others) none
    (has_config-without id gone others tail)

AreDistinct-without_id : (gone : ℤ) (configs : List LiveConfig) → AreDistinct configs
    → AreDistinct (without_id gone configs)
AreDistinct-without_id gone [] distinct = tt
AreDistinct-without_id gone (config ∷ others) distinct =
    by_case (not (int_eq config.id gone)) (AreDistinct-without_id gone others distinct.1) where
      by_case : (stays : Bool) → AreDistinct (without_id gone others)
          → AreDistinct (cond stays (config ∷ without_id gone others) (without_id gone others))
      by_case true rest = (has_config-without config.id gone others distinct.0, rest)
      by_case false rest = rest

AreDistinct-live_with : (place : ℕ) (id : ℤ) (found : Result Config ReplyBody) (configs : List LiveConfig)
    → AreDistinct configs → AreDistinct (live_with place id found configs)
AreDistinct-live_with place id (Ok config) configs distinct =
    AreDistinct-with_config (record { id = id; config = config; place = place }) configs distinct
AreDistinct-live_with place id (Err refusal) configs distinct = distinct

AreDistinct-after : (before : List Frame) (frame : Frame) (configs : List LiveConfig) → AreDistinct configs
    → AreDistinct (live_after before frame configs)
AreDistinct-after before (Log frame) configs distinct = distinct
AreDistinct-after before (Install uid id config) configs distinct =
    AreDistinct-live_with (length before) id (acceptance uid id config configs) configs distinct
AreDistinct-after before (Remove uid id) configs distinct = AreDistinct-without_id id configs distinct
AreDistinct-after before (Report uid id include_current) configs distinct = distinct

AreDistinct-live_from : (before : List Frame) (configs : List LiveConfig) (frames : List Frame) → AreDistinct configs
    → AreDistinct (live_from before configs frames)
AreDistinct-live_from before configs [] distinct = distinct
AreDistinct-live_from before configs (frame ∷ frames) distinct =
    AreDistinct-live_from (before ++ frame ∷ []) (live_after before frame configs) frames
    (AreDistinct-after before frame configs distinct)

-- no two live configurations of a client have one id
pub live_distinct : (frames : List Frame) → AreDistinct (live frames)
live_distinct frames = AreDistinct-live_from [] [] frames tt

module _ (new : LiveConfig) (id : ℤ) where
  -- an install puts its configuration at its own id, and at no other
  pub config_at-with_config : (configs : List LiveConfig) → config_at id (with_config new configs)
      ≡ cond (int_eq new.id id) (Some new) (config_at id configs)
  config_at-with_config [] = refl
  config_at-with_config (old ∷ others) = by_case (int_eq old.id new.id) refl (config_at-with_config others) where
    by_case : (same : Bool) → int_eq old.id new.id ≡ same → config_at id (with_config new others)
        ≡ cond (int_eq new.id id) (Some new) (config_at id others)
        → config_at id (cond same (new ∷ others) (old ∷ with_config new others))
        ≡ cond (int_eq new.id id) (Some new) (config_at id (old ∷ others))
    by_case true e rest =
        let one : int_eq old.id id ≡ int_eq new.id id = ap (λ n. int_eq n id) ((signed_Decides old.id new.id).0 e) in
        both (int_eq new.id id) (int_eq old.id id) one where
          both : (a b : Bool) → b ≡ a → cond a (Some new) (config_at id others)
              ≡ cond a (Some new) (cond b (Some old) (config_at id others))
          both true b same = refl
          both false b same = ap (λ c. cond c (Some old) (config_at id others)) (sym same)
    by_case false e rest = ap (λ o. cond (int_eq old.id id) (Some old) o) rest
        ∙ apart (int_eq old.id id) (int_eq new.id id) refl refl where
          apart : (a b : Bool) → int_eq old.id id ≡ a → int_eq new.id id ≡ b
              → cond a (Some old) (cond b (Some new) (config_at id others))
              ≡ cond b (Some new) (cond a (Some old) (config_at id others))
          apart true true f g = absurd (true≢false (sym
              ((signed_Decides old.id new.id).1 ((signed_Decides old.id id).0 f
              ∙ sym ((signed_Decides new.id id).0 g))) ∙ e))
          apart true false f g = refl
          apart false b f g = refl

-- a remove takes out what stands at its id, and nothing else
pub config_at-without_id : (gone id : ℤ) (configs : List LiveConfig) → config_at id (without_id gone configs)
    ≡ cond (int_eq gone id) None (config_at id configs)
config_at-without_id gone id [] = none (int_eq gone id) where
  none : (b : Bool) → config_at id [] ≡ cond b None (config_at id [])
  none true = refl
  none false = refl
config_at-without_id gone id (config ∷ others) = by_case (int_eq config.id gone) refl
    (config_at-without_id gone id others) where
      by_case : (same : Bool) → int_eq config.id gone ≡ same → config_at id (without_id gone others)
          ≡ cond (int_eq gone id) None (config_at id others)
          → config_at id (cond (not same) (config ∷ without_id gone others) (without_id gone others))
          ≡ cond (int_eq gone id) None (config_at id (config ∷ others))
      by_case true e rest =
          let one : int_eq config.id id ≡ int_eq gone id =
          ap (λ n. int_eq n id) ((signed_Decides config.id gone).0 e) in
          rest ∙ both (int_eq gone id) (int_eq config.id id) one where
            both : (a b : Bool) → b ≡ a → cond a None (config_at id others)
                ≡ cond a None (cond b (Some config) (config_at id others))
            both true b same = refl
            both false b same = ap (λ c. cond c (Some config) (config_at id others)) (sym same)
      by_case false e rest = ap (λ o. cond (int_eq config.id id) (Some config) o) rest
          ∙ apart (int_eq config.id id) (int_eq gone id) refl refl where
            apart : (a b : Bool) → int_eq config.id id ≡ a → int_eq gone id ≡ b
                → cond a (Some config) (cond b None (config_at id others))
                ≡ cond b None (cond a (Some config) (config_at id others))
            apart true true f g = absurd (true≢false (sym
                ((signed_Decides config.id gone).1 ((signed_Decides config.id id).0 f
                ∙ sym ((signed_Decides gone id).0 g)))
                ∙ e))
            apart true false f g = refl
            apart false b f g = refl

-- one where something stands, else none
abbrev pub one_if : Bool → ℕ
one_if true = 1
one_if false = 0

-- an install adds one where its id is new
pub length-with_config : (new : LiveConfig) (configs : List LiveConfig)
    → length (with_config new configs) + one_if (is_some (config_at new.id configs)) ≡ length configs + 1
length-with_config new [] = refl
length-with_config new (old ∷ others) = by_case (int_eq old.id new.id) (length-with_config new others) where
  by_case : (same : Bool) → length (with_config new others) + one_if (is_some (config_at new.id others))
      ≡ length others + 1
      → length (cond same (new ∷ others) (old ∷ with_config new others)) + one_if
      (is_some (cond same (Some old) (config_at new.id others))) ≡ length (old ∷ others) + 1
  by_case true rest = refl
  by_case false rest = omega (arith, rest)

no_config : (id : ℤ) (configs : List LiveConfig) → has_config id configs ≡ false → length (without_id id configs)
    ≡ length configs
no_config id [] none = refl
no_config id (config ∷ others) none = by_case (int_eq config.id id) none (no_config id others) where
  by_case : (same : Bool) → (same || has_config id others) ≡ false
      → (has_config id others ≡ false → length (without_id id others) ≡ length others)
      → length (cond (not same) (config ∷ without_id id others) (without_id id others)) ≡ length (config ∷ others)
  by_case true h rest = absurd (true≢false h)
  by_case false h rest = ap suc (rest h)

-- a remove takes one out where there is one
pub length-without_id : (id : ℤ) (configs : List LiveConfig) → AreDistinct configs
    → length (without_id id configs) + one_if (is_some (config_at id configs)) ≡ length configs
length-without_id id [] distinct = refl
length-without_id id (config ∷ others) distinct = by_case (int_eq config.id id) refl
    (length-without_id id others distinct.1) where
      by_case : (same : Bool) → int_eq config.id id ≡ same
          → length (without_id id others) + one_if (is_some (config_at id others)) ≡ length others
          → length (cond (not same) (config ∷ without_id id others) (without_id id others)) + one_if
          (is_some (cond same (Some config) (config_at id others))) ≡ length (config ∷ others)
      by_case true e rest =
          let none : has_config id others ≡ false = ap (λ n. has_config n others)
          (sym ((signed_Decides config.id id).0 e)) ∙ distinct.0 in
          omega (arith, no_config id others none)
      by_case false e rest = omega (arith, rest)

-- what stands at an id was installed before the frames ended, and has that id
pub placed_at : (count : ℕ) (id : ℤ) (configs : List LiveConfig) → ArePlaced count configs → (config : LiveConfig)
    → config_at id configs ≡ Some config → (config.place < count) × (config.id ≡ id)
placed_at count id [] placed config is = absurd (cc)
placed_at count id (first ∷ others) placed config is = by_case (int_eq first.id id) refl is
    (placed_at count id others placed.1 config) where
      by_case : (same : Bool) → int_eq first.id id ≡ same → cond same (Some first) (config_at id others) ≡ Some config
          → (config_at id others ≡ Some config → (config.place < count) × (config.id ≡ id))
          → (config.place < count) × (config.id ≡ id)
      by_case true e is rest = let one : first ≡ config = cc in (
        subst (λ (c : LiveConfig). c.place < count) one placed.0,
        ap (λ (c : LiveConfig). c.id) (sym one)
            ∙ (signed_Decides first.id id).0 e,
      )
      by_case false e is rest = rest is
