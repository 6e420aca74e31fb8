-- The tables hold the task, and its spaces are those of the tables.
use Rattle.std.proofs.Common.{arith}
use Rattle.card.specs.Represents.{task_of}
use Rattle.properties.proofs.TaskParts.{arities_right, schemas_right, facts_right}
use Rattle.prepared.proofs.Preparing.{tables_are, bags_are, properties_counted, sizes_few, room_for, spaces_are}
use Rattle.prepared.proofs.prepare.Goals as goal

pub parameter_bags-parameters-requires : goal.parameter_bags-parameters-requires
unfolding task_of
parameter_bags-parameters-requires c =
    let pre = c.requires in
    record {
      arities_right = arities_right _ pre.represented;
      schemas_right = schemas_right _ pre.represented;
      room_for_bags = pre.room_for_bags;
    }

pub object_bags-requires-clause-arities_right : goal.object_bags-requires-clause-arities_right
object_bags-requires-clause-arities_right c = arities_right _ c.requires.represented

pub object_bags-requires-clause-facts_known : goal.object_bags-requires-clause-facts_known
object_bags-requires-clause-facts_known c = facts_right _ c.requires.represented

pub numbered-properties-requires : goal.numbered-properties-requires
numbered-properties-requires c = (arities_right _ c.requires.represented).few

pub property_arities-arities-requires : goal.property_arities-arities-requires
property_arities-arities-requires c = arities_right _ c.requires.represented

pub spaces_of-spaces-requires : goal.spaces_of-spaces-requires
spaces_of-spaces-requires c =
    let pre = c.requires in
    let bags = c.object_bags in
    let written = c.parameter_bags-parameters in
    let tables = tables_are _ written.ensures in
    let counts = bags_are _ _ bags.ensures in
    let counted = properties_counted _ c.numbered-properties.ensures in
    let few = sizes_few _ pre.represented _ tables counts counted in
    record {
      size_bound = few;
      room_for_bags =
          room_for _ pre.represented _ tables counts counted pre.room_for_bags written.auto.preconditions written.auto.deletes written.auto.adds;
      objects_in_bounds = omega (arith, pre.in_bounds, bags.auto.counts, few.1);
    }

pub returns : goal.returns
unfolding task_of
returns c =
    let pre = c.requires in
    let written = c.parameter_bags-parameters in
    let tables = tables_are _ written.ensures in
    let counts = bags_are _ _ c.object_bags.ensures in
    let counted = properties_counted _ c.numbered-properties.ensures in
    let room = room_for _ pre.represented _ tables counts counted pre.room_for_bags
    written.auto.preconditions written.auto.deletes written.auto.adds in
    record {
      tables = tables;
      counts_are = counts;
      properties_counted = counted;
      arities_are = c.property_arities-arities.ensures;
      spaces_are = spaces_are _ pre.represented _ tables counts counted c.spaces_of-spaces.ensures room;
    }
