pub mod BenchLines
