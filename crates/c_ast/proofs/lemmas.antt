pub mod Layers
pub mod UnitLayers
pub mod SeenTypes
pub mod SeenExprs
pub mod SeenNodes
