-- What the search after the given binding finds.
use Rattle.std.proofs.Common.{refl, inl}
use Rattle.card.specs.Represents.{schema_of}
use Rattle.open_actions.specs.Bindings.{query_of, query_in}
use Rattle.open_actions.proofs.query.Query.rest_of_schema.Goals as goal

pub returns : goal.returns
unfolding query_in query_of schema_of
returns c = inl (record { objects = c.in_ok-objects.objects; chooses = c.in_ok-objects.ensures; is = refl })
