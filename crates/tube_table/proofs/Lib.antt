pub mod TubeTable
