-- 17 and 18 of the objects, then 19.
use Rattle.std.proofs.Common.{◌≡◌, ℕ, true, ltb, List, length, sym, ◌∙◌}
use Rattle.laws.specs.Lists.{all, distinct}
use Rattle.card.specs.Represents.{schema_of}
use Rattle.card.specs.declared.Schema.{Schema}
use Rattle.strips.specs.Steps.{StateKept, SchemaKept, ActionReady}
use Rattle.strips.proofs.Applying.{rows_ascend, preconditions_bound, test_says}
use Rattle.strips.proofs.Refusing.{wrong_number, unknown_object, object_repeated, precondition_missing, schema_passed}
use Rattle.strips.proofs.admit_schema.Goals as goal

-- what passes 17 and 18 is ready
ready : {arities objects : List ℕ} {schema : Schema} {known count : ℕ} {buffer : List ℕ} → StateKept arities known buffer count → SchemaKept arities schema
    → length objects ≡ schema.parameters → all (λ o. ltb o known) objects ≡ true → distinct objects ≡ true
    → ActionReady arities objects schema buffer count
ready {known = known} state schema number objects_known different =
    record { known_objects = known; state = state; schema_kept = schema; one_for_each = number; objects_known = objects_known; different = different }

pub returns-then-objects-schema : goal.returns-then-objects-schema
unfolding schema_of
returns-then-objects-schema c = wrong_number c.args.known _ _ _ c.if-objects-schema.true

pub returns-then-not-all_known : goal.returns-then-not-all_known
returns-then-not-all_known c = unknown_object c.args.known _ _ _ (sym c.all_known.ensures ∙ c.if-not-all_known.true)

pub returns-then-not-all_different : goal.returns-then-not-all_different
unfolding schema_of
returns-then-not-all_different c =
    object_repeated c.args.known _ _ _ c.if-objects-schema.false (sym c.all_known.ensures ∙ c.if-not-all_known.false)
    (sym c.all_different.ensures ∙ c.if-not-all_different.true)

pub all_hold-requires : goal.all_hold-requires
all_hold-requires c =
    let known = sym c.all_known.ensures ∙ c.if-not-all_known.false in
    let different = sym c.all_different.ensures ∙ c.if-not-all_different.false in
    (preconditions_bound (ready c.requires.0 c.requires.1 c.if-objects-schema.false known different), rows_ascend c.requires.0)

pub returns-then-not-all_hold : goal.returns-then-not-all_hold
unfolding schema_of
returns-then-not-all_hold c =
    let known = sym c.all_known.ensures ∙ c.if-not-all_known.false in
    let different = sym c.all_different.ensures ∙ c.if-not-all_different.false in
    let says = test_says (ready c.requires.0 c.requires.1 c.if-objects-schema.false known different) c.all_hold.ensures in
    precondition_missing c.args.known _ _ _ c.if-objects-schema.false known different (sym says ∙ c.if-not-all_hold.true)

pub returns : goal.returns
unfolding schema_of
returns c =
    let known = sym c.all_known.ensures ∙ c.if-not-all_known.false in
    let different = sym c.all_different.ensures ∙ c.if-not-all_different.false in
    let says = test_says (ready c.requires.0 c.requires.1 c.if-objects-schema.false known different) c.all_hold.ensures in
    schema_passed c.args.known _ _ _ c.if-objects-schema.false known different (sym says ∙ c.if-not-all_hold.false)
