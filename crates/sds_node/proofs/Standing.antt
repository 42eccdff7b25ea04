-- What a node has after a call is sound, and the records that are told are its image.
use Rattle.std.proofs.Common.{◌≡◌, ◌⊎◌, inl, inr, Option, None, Some, List, refl, sym, ap, subst, ◌∙◌}
use Rattle.std.specs.Prelude.{IfSome, Result}
use Rattle.sds_outside.specs.Keepings.{Keeping}
use Rattle.sds_outside.specs.Records as outside
use Rattle.sds_outside.specs.declared.keeping.Edit.{Edit}
use Rattle.sds_types.specs.declared.config.Config.{Config}
use Rattle.sds_types.specs.declared.node_fault.NodeFault.{NodeFault}
use Rattle.sds_trade.specs.rules.Sound.{IsSound}
use Rattle.sds_history.specs.history.Acts.{Act, State}
use Rattle.sds_history.specs.history.Image.{image_of}
use Rattle.sds_history.specs.history.SoundStates.{IsSoundState}
use Rattle.sds_history.specs.history.States.{state_after}
use Rattle.sds_image.specs.Pairs.{pairs}
use Rattle.sds_nodelaws.specs.Asked.{IsAsked}
use Rattle.sds_nodelaws.specs.Calls.{Call, act_of}
use Rattle.sds_nodelaws.proofs.SoundActs.{calls_keep_states_sound}
use Rattle.sds_imagelaws.specs.Edits.{edits_of}
use Rattle.sds_imagelaws.specs.Reading.{AreHeld}
use Rattle.sds_imagelaws.specs.Widths.{IsHeldCall}
use Rattle.sds_imagelaws.proofs.AskedImages.{asked_calls_make_images}
use Rattle.sds_imagelaws.proofs.Widths.{acts_keep_widths}
use Rattle.sds_commit.specs.Ends.{Ends, Fails, HasFailed, Kept, Makes, told_with}
use Rattle.sds_node.proofs.Endings.{Ended}

abbrev pub Told : Config → Kept → Type 0
Told config kept = IfSome kept.told.records (λ told. told ≡ pairs (image_of config kept.state))

-- what a call leaves is sound
made_sound : (config : Config) (call : Call) (before after : Kept) (act : Option Act) → IsSound config → IsSoundState config before.state
    → IsAsked config before.state call → act_of config before.state call ≡ act → Makes config before after act → IsSoundState config after.state
made_sound config call before after None all sound asked is made = subst (λ (kept : Kept). IsSoundState config kept.state) (sym made) sound
made_sound config call before after (Some act) all sound asked is made =
    subst (IsSoundState config) (sym made.0) (calls_keep_states_sound config all before.state sound call asked act is)

failed_sound : (config : Config) (before after : Kept) (act : Option Act) → IsSoundState config before.state → Fails config before after act
    → IsSoundState config after.state
failed_sound config before after None sound failed = absurd failed
failed_sound config before after (Some act) sound failed = subst (IsSoundState config) (sym failed.0) sound

pub sound_after : {A E : Type 0} (config : Config) (call : Call) (before after : Kept) (as_fault : NodeFault → E) (answer result : Result A E)
    → IsSound config → IsSoundState config before.state → IsAsked config before.state call → Ended as_fault result
    → Ends config before after (act_of config before.state call) as_fault answer result → IsSoundState config after.state
sound_after config call before after as_fault answer result all sound asked (inl failed) ends =
    failed_sound config before after (act_of config before.state call) sound (ends.failed failed)
sound_after config call before after as_fault answer result all sound asked (inr (inl lacks)) ends =
    subst (λ (kept : Kept). IsSoundState config kept.state) (sym (ends.no_memory lacks)) sound
sound_after config call before after as_fault answer result all sound asked (inr (inr answered)) ends =
    made_sound config call before after (act_of config before.state call) all sound asked refl (ends.answered answered).1

-- and its numbers have their widths
made_held : (config : Config) (call : Call) (before after : Kept) (act : Option Act) → IsSound config → IsSoundState config before.state → AreHeld before.state
    → IsAsked config before.state call → IsHeldCall call → act_of config before.state call ≡ act → Makes config before after act → AreHeld after.state
made_held config call before after None all sound held asked few is made = subst (λ (kept : Kept). AreHeld kept.state) (sym made) held
made_held config call before after (Some act) all sound held asked few is made =
    subst AreHeld (sym made.0) (acts_keep_widths config before.state call act all sound held asked few is)

failed_held : (config : Config) (before after : Kept) (act : Option Act) → AreHeld before.state → Fails config before after act → AreHeld after.state
failed_held config before after None held failed = absurd failed
failed_held config before after (Some act) held failed = subst AreHeld (sym failed.0) held

pub held_after : {A E : Type 0} (config : Config) (call : Call) (before after : Kept) (as_fault : NodeFault → E) (answer result : Result A E)
    → IsSound config → IsSoundState config before.state → AreHeld before.state → IsAsked config before.state call → IsHeldCall call → Ended as_fault result
    → Ends config before after (act_of config before.state call) as_fault answer result → AreHeld after.state
held_after config call before after as_fault answer result all sound held asked few (inl failed) ends =
    failed_held config before after (act_of config before.state call) held (ends.failed failed)
held_after config call before after as_fault answer result all sound held asked few (inr (inl lacks)) ends =
    subst (λ (kept : Kept). AreHeld kept.state) (sym (ends.no_memory lacks)) held
held_after config call before after as_fault answer result all sound held asked few (inr (inr answered)) ends =
    made_held config call before after (act_of config before.state call) all sound held asked few refl (ends.answered answered).1

-- and the records that are told are its image, where the keeper didn't fail
told_edit : (records : Option (List outside.Record)) (edits : List Edit) (image next : List outside.Record) → IfSome records (λ told. told ≡ image)
    → outside.edited edits image ≡ next → IfSome (outside.told_edited edits records) (λ told. told ≡ next)
told_edit None edits image next told leads = tt
told_edit (Some records) edits image next told leads = ap (outside.edited edits) told ∙ leads

made_told : (config : Config) (call : Call) (before after : Kept) (act : Option Act) → IsSound config → IsSoundState config before.state
    → IsAsked config before.state call → act_of config before.state call ≡ act → Told config before → Makes config before after act → Told config after
made_told config call before after None all sound asked is told made = subst (Told config) (sym made) told
made_told config call before after (Some act) all sound asked is told made =
    let leads = asked_calls_make_images config before.state call act all sound asked is in
    let next : IfSome (told_with config before act).records (λ told. told ≡ pairs (image_of config (state_after config before.state act))) =
    told_edit before.told.records (edits_of config before.state act) _ _ told leads in
    let records : IfSome after.told.records (λ told. told ≡ pairs (image_of config (state_after config before.state act))) =
    subst (λ (kept : Keeping). IfSome kept.records (λ told. told ≡ pairs (image_of config (state_after config before.state act)))) (sym made.1) next in
    subst (λ state. IfSome after.told.records (λ told. told ≡ pairs (image_of config state))) (sym made.0) records

pub told_after : {A E : Type 0} (config : Config) (call : Call) (before after : Kept) (as_fault : NodeFault → E) (answer result : Result A E)
    → IsSound config → IsSoundState config before.state → IsAsked config before.state call → Ended as_fault result → (HasFailed as_fault result → ⊥)
    → Told config before → Ends config before after (act_of config before.state call) as_fault answer result → Told config after
told_after config call before after as_fault answer result all sound asked (inl failed) well told ends = absurd (well failed)
told_after config call before after as_fault answer result all sound asked (inr (inl lacks)) well told ends = subst (Told config) (sym (ends.no_memory lacks)) told
told_after config call before after as_fault answer result all sound asked (inr (inr answered)) well told ends =
    made_told config call before after (act_of config before.state call) all sound asked refl told (ends.answered answered).1
